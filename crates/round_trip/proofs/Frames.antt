-- The frames of a message: full frames leave at most one frame's bytes, and none only where there are none; a stream flag depends on whether
-- a frame is the first and whether it is the last of its type; and each frame has eight bytes and its payload. Assumes nothing.
use Prim.Native.Nat.{ℕ, zero, suc, ◌+◌, ◌-◌, ◌*◌, ◌≤◌, ◌<◌, min}
use native.Mathlib.Nat.{div-mul-le_self, lt-div-mul-add}
use mathlib.Core.Path.{◌≡◌, refl, sym, ap, ◌∙◌}
use mathlib.Core.Bool.{Bool, true, false, ◌&&◌, ◌||◌, not}
use mathlib.Core.List.{List, [], ◌∷◌, ◌++◌, map, map-append, append-nil}
use native.Mathlib.Omega.{arith}
use lib.ListN.{length, take, drop, length-take, length-drop}
use lib.Dec.{ltb, eqb}
use borrow.Author.Tests.{ltb-true, ltb-false}
use Rattle.frame.specs.Limits.{max_command}
use Rattle.frame.specs.Frame.{Frame, is_even, begins, ends}
use Rattle.rules.proofs.Bools.{by_cond}
use Rattle.command.specs.Command.{checked, number_of}
use Rattle.sender.specs.declared.Wishes.{Wishes}
use Rattle.sender.specs.Frames.{command_frame, data_frame, frames, full_frames, command_frames, data_frames, message_frames, total}
use Rattle.buffer.specs.Answers.{refused}
use Rattle.sender.specs.Send.{max_size, frames_into, send_of}
use Rattle.sender.proofs.FrameLaws.{all-long}
use Rattle.round_trip.specs.Frames.{Filled, full, last, applies_encoding, on_none, on_first, on_last, Flagged, MessageFramed, TotalLength, Exact, ExactTotal}
use Rattle.round_trip.proofs.FlagLaws.{stream-flags}

-- ---- the total

pub total-length : TotalLength
total-length = all-long

-- ---- the bytes of one type

-- full frames leave at most one frame's bytes, and at least one byte where there are bytes
pub rest-fits : (size n : ℕ) → 0 < size → n ≤ full_frames size n * size + size
unfolding full_frames
rest-fits size n h = omega (arith, lt-div-mul-add {a = n - 1} {b = size} h)

rest-left : (size n : ℕ) → full_frames size n * size + min 1 n ≤ n
unfolding full_frames
rest-left size n = omega (arith, div-mul-le_self (n - 1) size)

module _ (make : Bool → Bool → List ℕ → Frame) (carries : (first last : Bool) (bytes : List ℕ) → (make first last bytes).payload ≡ bytes) (size n : ℕ) where
  frames-filled : (k : ℕ) (first : Bool) (bytes : List ℕ) → k * size + min 1 n ≤ length bytes → length bytes ≤ k * size + size
      → Filled size n (frames make size first k bytes)
  unfolding frames
  frames-filled zero first bytes h l =
      let e : length (make first true bytes).payload ≡ length bytes = ap length (carries first true bytes) in
      let most : length (make first true bytes).payload ≤ size = omega arith in
      let some : length (make first true bytes).payload ≡ 0 → n ≡ 0 = λ z. omega arith in
      last most some
  frames-filled (suc k) first bytes h l =
      let e : length (make first false (take size bytes)).payload ≡ length (take size bytes) = ap length (carries first false (take size bytes)) in
      let all : length (make first false (take size bytes)).payload ≡ size = omega (arith, length-take size bytes) in
      full all
      (frames-filled k false (drop size bytes) (omega (arith, length-drop size bytes)) (omega (arith, length-drop size bytes)))

-- ---- a flag on the frames of one type

module _ (make : Bool → Bool → List ℕ → Frame) (size : ℕ) (flagged : Frame → Bool) where
  on_none_lem : ((first last : Bool) (bytes : List ℕ) → flagged (make first last bytes) ≡ false) → (first : Bool) (n : ℕ) (bytes : List ℕ)
      → map flagged (frames make size first n bytes) ≡ on_none (frames make size first n bytes)
  unfolding frames
  on_none_lem h first zero bytes = rw (h first true bytes)
  on_none_lem h first (suc n) bytes = rw (h first false (take size bytes), on_none_lem h false n (drop size bytes))

  first-none : (fs : List Frame) → on_first false fs ≡ on_none fs
  unfolding on_first
  first-none [] = refl
  first-none (f ∷ fs) = refl

  on-first : (b : Bool) → ((first last : Bool) (bytes : List ℕ) → flagged (make first last bytes) ≡ (first && b)) → (first : Bool) (n : ℕ) (bytes : List ℕ)
      → map flagged (frames make size first n bytes) ≡ on_first (first && b) (frames make size first n bytes)
  unfolding frames on_first
  on-first b h first zero bytes = rw (h first true bytes)
  on-first b h first (suc n) bytes = rw (h first false (take size bytes), on-first b h false n (drop size bytes), first-none (frames make size false n (drop size bytes)))

  last-later : (b : Bool) (f : Frame) (first : Bool) (n : ℕ) (bytes : List ℕ) → on_last b (f ∷ frames make size first n bytes) ≡ false ∷ on_last b (frames make size first n bytes)
  unfolding frames on_last
  last-later b f first zero bytes = refl
  last-later b f first (suc n) bytes = refl

  on-last : (b : Bool) → ((first last : Bool) (bytes : List ℕ) → flagged (make first last bytes) ≡ (last && b)) → (first : Bool) (n : ℕ) (bytes : List ℕ)
      → map flagged (frames make size first n bytes) ≡ on_last b (frames make size first n bytes)
  unfolding frames on_last
  on-last b h first zero bytes = rw (h first true bytes)
  on-last b h first (suc n) bytes =
      rw (last-later b (make first false (take size bytes)) false n (drop size bytes), h first false (take size bytes), on-last b h false n (drop size bytes))

-- ---- frames of one type behind those of another

-- at least one frame
data NotEmpty : List Frame → Type 0 where
  not_empty : {f : Frame} {fs : List Frame} → NotEmpty (f ∷ fs)

frames-there : (make : Bool → Bool → List ℕ → Frame) (size : ℕ) (first : Bool) (n : ℕ) (bytes : List ℕ) → NotEmpty (frames make size first n bytes)
unfolding frames
frames-there make size first zero bytes = not_empty
frames-there make size first (suc n) bytes = not_empty

first_then : (b : Bool) (fs gs : List Frame) → NotEmpty fs → on_first b (fs ++ gs) ≡ on_first b fs ++ on_none gs
unfolding on_first
first_then b fs gs (not_empty {fs = rest}) = ap (λ (l : List Bool). b ∷ l) (map-append (λ (f : Frame). false) rest gs)

last-behind : (b : Bool) (f : Frame) (fs gs : List Frame) → NotEmpty gs → on_last b (f ∷ (fs ++ gs)) ≡ false ∷ on_last b (fs ++ gs)
unfolding on_last
last-behind b f [] gs not_empty = refl
last-behind b f (g ∷ fs) gs h = refl

last_then : (b : Bool) (fs gs : List Frame) → NotEmpty gs → on_last b (fs ++ gs) ≡ on_none fs ++ on_last b gs
last_then b [] gs h = refl
last_then b (f ∷ fs) gs h = last-behind b f fs gs h ∙ ap (λ (l : List Bool). false ∷ l) (last_then b fs gs h)

-- ---- the stream flags of a message

-- end is on a command frame only where there is no data
never-last : (t e : Bool) → (t && not true && e) ≡ false
never-last true e = refl
never-last false e = refl

module _ (how : Wishes) (command bytes : List ℕ) where
  abbrev n : ℕ
  n = full_frames how.size (length command)

  abbrev k : ℕ
  k = full_frames how.size (length bytes)

  begins-command : (with-data : Bool) → map begins (command_frames how with-data command) ≡ on_first how.begin (command_frames how with-data command)
  unfolding command_frames begins
  begins-command with-data =
      on-first (command_frame how with-data) how.size begins how.begin
      (λ first last p. (stream-flags (first && how.begin) (last && not with-data && how.end)).begins) true n command

  begins_data : map begins (data_frames how bytes) ≡ on_none (data_frames how bytes)
  unfolding data_frames begins
  begins_data = on_none_lem (data_frame how) how.size begins (λ first last p. (stream-flags false (last && how.end)).begins) true k bytes

  ends-command : map ends (command_frames how false command) ≡ on_last how.end (command_frames how false command)
  unfolding command_frames ends
  ends-command =
      on-last (command_frame how false) how.size ends how.end (λ first last p. (stream-flags (first && how.begin) (last && true && how.end)).ends ∙ both last) true n command
    where
      both : (t : Bool) → (t && true && how.end) ≡ (t && how.end)
      both true = refl
      both false = refl

  ends-before : map ends (command_frames how true command) ≡ on_none (command_frames how true command)
  unfolding command_frames ends
  ends-before =
      on_none_lem (command_frame how true) how.size ends
      (λ first last p. (stream-flags (first && how.begin) (last && false && how.end)).ends ∙ never-last last how.end) true n command

  ends_data : map ends (data_frames how bytes) ≡ on_last how.end (data_frames how bytes)
  unfolding data_frames ends
  ends_data = on-last (data_frame how) how.size ends how.end (λ first last p. (stream-flags false (last && how.end)).ends) true k bytes

  encoding-command : (with-data : Bool) → map applies_encoding (command_frames how with-data command) ≡ on_none (command_frames how with-data command)
  unfolding command_frames applies_encoding
  encoding-command with-data =
      on_none_lem (command_frame how with-data) how.size applies_encoding
      (λ first last p. (stream-flags (first && how.begin) (last && not with-data && how.end)).encodes) true n command

  encoding_data : map applies_encoding (data_frames how bytes) ≡ on_none (data_frames how bytes)
  unfolding data_frames applies_encoding
  encoding_data = on_none_lem (data_frame how) how.size applies_encoding (λ first last p. (stream-flags false (last && how.end)).encodes) true k bytes

  command-there : NotEmpty (command_frames how true command)
  unfolding command_frames
  command-there = frames-there (command_frame how true) how.size true n command

  data_there : NotEmpty (data_frames how bytes)
  unfolding data_frames
  data_there = frames-there (data_frame how) how.size true k bytes

  flagged : (with-data : Bool) → Flagged how (message_frames how command with-data bytes)
  unfolding message_frames
  flagged false =
      rw (append-nil (command_frames how false command))
      (record { beginning = begins-command false; ending = ends-command; encoding = encoding-command false })
  flagged true =
      let cs : List Frame = command_frames how true command in
      let ds : List Frame = data_frames how bytes in
      record {
        beginning = rw (map-append begins cs ds, begins-command true, begins_data) (sym (first_then how.begin cs ds command-there));
        ending = rw (map-append ends cs ds, ends-before, ends_data) (sym (last_then how.end cs ds data_there));
        encoding = rw (map-append applies_encoding cs ds, encoding-command true, encoding_data) (sym (map-append (λ (f : Frame). false) cs ds));
      }

pub message_framed : MessageFramed
unfolding command_frames data_frames
message_framed how command with-data bytes h = record {
  command-filled =
      frames-filled (command_frame how with-data) (λ first last p. refl) how.size (length command) (full_frames how.size (length command)) true command
      (rest-left how.size (length command)) (rest-fits how.size (length command) h);
  data_filled =
      frames-filled (data_frame how) (λ first last p. refl) how.size (length bytes) (full_frames how.size (length bytes)) true bytes
      (rest-left how.size (length bytes)) (rest-fits how.size (length bytes) h);
  flags = flagged how command bytes with-data;
}

-- ---- the total

unmet : (fs : List Frame) (room n : ℕ) (out : List ℕ) → (n ≡ 0 → ⊥) → (n ≡ 54 → ⊥) → Exact fs room (refused n out)
unmet fs room n out h k = record { written = λ e. absurd (h e); enough = λ e. absurd (h e); short = λ e. absurd (k e) }

pub exact_total : ExactTotal
unfolding send_of frames_into
exact_total how command with-data bytes out =
    let fs : List Frame = message_frames how command with-data bytes in
    by_cond (Exact fs (length out)) (is_even how.request || is_even how.stream) _ _ (λ e. unmet fs (length out) 50 out (λ k. omega arith) (λ k. omega arith)) (λ e.
    by_cond (Exact fs (length out)) (eqb how.size 0 || ltb max_size how.size) _ _ (λ e. unmet fs (length out) 51 out (λ k. omega arith) (λ k. omega arith)) (λ e.
    by_cond (Exact fs (length out)) (not (eqb (number_of (checked command)) 0)) _ _ (λ e. unmet fs (length out) 52 out (λ k. omega arith) (λ k. omega arith)) (λ e.
    by_cond (Exact fs (length out)) (ltb max_command (length command)) _ _ (λ e. unmet fs (length out) 53 out (λ k. omega arith) (λ k. omega arith)) (λ e.
    by_cond (Exact fs (length out)) (ltb (length out) (total fs)) _ _
    (λ e. let h = ltb-true (length out) (total fs) e in record { written = λ k. absurd (omega arith); enough = λ k. absurd (omega arith); short = λ k. omega (arith, total-length fs) })
    (λ e. let h = ltb-false (length out) (total fs) e in record { written = λ k. sym (total-length fs); enough = λ k. omega (arith, total-length fs); short = λ k. absurd (omega arith) })))))
