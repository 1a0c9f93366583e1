-- The frames of a message: their total in parts, and what putting them into the output answers.
-- Assumes nothing.
use mathlib.Core.Path.{◌≡◌, refl, sym, ap, ◌∙◌}
use mathlib.Core.Bool.{Bool, true, false, cond}
use Rattle.std.specs.Prelude.{Option, Some, None, Err}
use Rattle.std.specs.Option.{ok_or}
use mathlib.Core.List.{List, [], ◌++◌, append-nil}
use Prim.Native.Nat.{ℕ, ◌+◌, ◌-◌, ◌*◌, ◌≤◌, ◌<◌}
use native.Mathlib.Nat.{div-mul-le_self}
use native.Mathlib.Omega.{arith}
use lib.ListN.{length, length-append}
use lib.Dec.{leb}
use borrow.Author.Tests.{lt-ltb, le-ltb, leb-true, leb-false}
use Rattle.frame.specs.Frame.{Frame}
use Rattle.buffer.specs.Bytes.{write}
use Rattle.buffer.proofs.WriteLaws.{write_also}
use Rattle.sender.specs.declared.Wishes.{Wishes}
use Rattle.sender.specs.declared.frames.Kind.TheVariants.{Command, Data}
use Rattle.sender.specs.declared.frames.Frames.{Frames}
use Rattle.sender.specs.Frames.{command_frame, data_frame, frames, full_frames, command_frames, data_frames, message_frames, all_bytes, total}
use Rattle.buffer.specs.Answers.{answer, refused}
use Rattle.sender.specs.Send.{frames_into}
use Rattle.sender.specs.Steps.{type_bytes, frame_for, room_left}
use Rattle.sender.proofs.FrameLaws.{all-long, all_append, frames-total, carries}

-- ---- full frames

pub full-fits : (size n : ℕ) → full_frames size n * size ≤ n
unfolding full_frames
full-fits size n = omega (arith, div-mul-le_self (n - 1) size)

pub type-long : (r : Frames) (n : ℕ) (bytes : List ℕ) → length (type_bytes r n bytes) ≡ 8 * (n + 1) + length bytes
type-long r n bytes = all-long (frames (frame_for r) r.how.size true n bytes) ∙ frames-total (frame_for r) r.how.size (carries r) true n bytes

-- ---- the frames of each type, and of both

total_append : (fs gs : List Frame) → total (fs ++ gs) ≡ total fs + total gs
total_append fs gs = omega (arith, all-long (fs ++ gs), ap length (all_append fs gs), length-append (all_bytes fs) (all_bytes gs), all-long fs, all-long gs)

module _ (how : Wishes) (command : List ℕ) (d : Bool) (bytes : List ℕ) where
  -- as the code has them
  pub as_command : (full : ℕ) → full ≡ full_frames how.size (length command) → type_bytes (record { how = how; kind = Command d }) full command ≡ all_bytes (command_frames how d command)
  unfolding command_frames
  as_command full e = rw e

  pub as_data : (full : ℕ) → full ≡ full_frames how.size (length bytes) → type_bytes (record { how = how; kind = Data }) full bytes ≡ all_bytes (data_frames how bytes)
  unfolding data_frames
  as_data full e = rw e

  pub command-total : total (command_frames how d command) ≡ 8 * (full_frames how.size (length command) + 1) + length command
  unfolding command_frames
  command-total = frames-total (command_frame how d) how.size (λ first last p. refl) true (full_frames how.size (length command)) command

  pub data_total : total (data_frames how bytes) ≡ 8 * (full_frames how.size (length bytes) + 1) + length bytes
  unfolding data_frames
  data_total = frames-total (data_frame how) how.size (λ first last p. refl) true (full_frames how.size (length bytes)) bytes

  pub message_least : total (command_frames how d command) ≤ total (message_frames how command d bytes)
  unfolding message_frames
  message_least = omega (arith, total_append (command_frames how d command) (cond d (data_frames how bytes) []))

  pub message_plain : d ≡ false → message_frames how command d bytes ≡ command_frames how d command
  unfolding message_frames
  message_plain e = let fs : List Frame = command_frames how d command in ap (λ (b : Bool). fs ++ cond b (data_frames how bytes) []) e ∙ append-nil fs

  module _ (e : d ≡ true) where
    pub message_data : message_frames how command d bytes ≡ command_frames how d command ++ data_frames how bytes
    unfolding message_frames
    message_data = let fs : List Frame = command_frames how d command in ap (λ (b : Bool). fs ++ cond b (data_frames how bytes) []) e

    pub message_total : total (message_frames how command d bytes) ≡ total (command_frames how d command) + total (data_frames how bytes)
    message_total = ap total message_data ∙ total_append (command_frames how d command) (data_frames how bytes)

-- ---- 54, or all is put

-- what the room says
module _ (room full n : ℕ) (o : Option ℕ) (e : o ≡ room_left room full n) where
  abbrev pub needed : ℕ
  needed = 8 * (full + 1) + n

  pub no_room : o ≡ None → room < needed
  no_room h = by (leb needed room) refl (sym e ∙ h)
    where
      by : (t : Bool) → leb needed room ≡ t → cond t (Some (room - needed)) None ≡ None → room < needed
      by true f g = absurd (cc)
      by false f g = leb-false needed room f

  pub some-room : (left : ℕ) → o ≡ Some left → (needed ≤ room) × (left ≡ room - needed)
  some-room left h = by (leb needed room) refl (sym e ∙ h)
    where
      by : (t : Bool) → leb needed room ≡ t → cond t (Some (room - needed)) None ≡ Some left → (needed ≤ room) × (left ≡ room - needed)
      by true f g = (leb-true needed room f, cc)
      by false f g = absurd (cc)

-- the refusal that `ok_or` was given
pub given_refusal : {A E : Type 0} (o : Option A) (x r : E) → Err x ≡ ok_or o r → x ≡ r
given_refusal None x r e = cc
given_refusal (Some n) x r e = absurd (cc)

pub too_short : (fs : List Frame) (out : List ℕ) → length out < total fs → refused 54 out ≡ frames_into fs out
unfolding frames_into
too_short fs out h = rw (lt-ltb _ _ h)

pub all-put : (fs : List Frame) (out out' : List ℕ) (n : ℕ) → total fs ≤ length out → n ≡ length (all_bytes fs) → out' ≡ write out 0 (all_bytes fs) → answer 0 n out' ≡ frames_into fs out
unfolding frames_into
all-put fs out out' n h e f = rw (le-ltb _ _ h, e, f, all-long fs)

-- the frames of a command and of its data, one behind the other
pub both-put : (fs gs : List Frame) (out w out' : List ℕ) (at n : ℕ) → total (fs ++ gs) ≤ length out → at ≡ 0 + length (all_bytes fs) → w ≡ write out 0 (all_bytes fs)
    → n ≡ at + length (all_bytes gs) → out' ≡ write w at (all_bytes gs) → answer 0 n out' ≡ frames_into (fs ++ gs) out
both-put fs gs out w out' at n h e f g k =
    let a : List ℕ = all_bytes fs in
    let b : List ℕ = all_bytes gs in
    let place : at ≡ length a = omega arith in
    all-put (fs ++ gs) out out' n h (rw all_append (omega (arith, length-append a b))) (k ∙ write_also out w a b at f place ∙ ap (write out 0) (sym (all_append fs gs)))
