-- The frames of one type, by the first and the rest: how long their bytes are, and what putting one after another leaves.
-- Assumes nothing.
use mathlib.Core.Path.{◌≡◌, refl, sym, ap, ◌∙◌}
use mathlib.Core.Bool.{Bool, true, false}
use mathlib.Core.List.{List, [], ◌∷◌, ◌++◌, append_assoc, append-nil}
use Prim.Native.Nat.{ℕ, zero, suc, ◌+◌, ◌-◌, ◌*◌, ◌≤◌, ◌<◌}
use native.Mathlib.Nat.{not-suc-le-zero}
use native.Mathlib.Numerals.{sub-one}
use native.Mathlib.Omega.{arith}
use lib.ListN.{length, take, drop, length-append, take-append-drop}
use lib.Seq.{drop-drop}
use Rattle.frame.specs.declared.Header.{Header}
use Rattle.frame.specs.Header.{header_bytes}
use Rattle.frame.specs.Frame.{Frame, header_for, frame_bytes}
use Rattle.frame.proofs.FrameBack.{frame-length}
use Rattle.buffer.specs.Bytes.{write}
use Rattle.buffer.proofs.WriteLaws.{write-twice, length-write}
use Rattle.sender.specs.declared.frames.Kind.{Kind}
use Rattle.sender.specs.declared.frames.Kind.TheVariants.{Command, Data}
use Rattle.sender.specs.declared.frames.Frames.{Frames}
use Rattle.sender.specs.Frames.{frames, all_bytes, total}
use Rattle.sender.specs.Steps.{frame_of, frame_for}

header_then : (f : Frame) (out : List ℕ) (at : ℕ) → write (write out at (header_bytes (header_for f))) (at + 8) f.payload ≡ write out at (frame_bytes f)
unfolding frame_bytes header_bytes
header_then f out at = write-twice out at (header_bytes (header_for f)) f.payload

-- the total is the length of the bytes
pub all-long : (fs : List Frame) → length (all_bytes fs) ≡ total fs
unfolding all_bytes total
all-long [] = refl
all-long (f ∷ fs) = omega (arith, length-append (frame_bytes f) (all_bytes fs), frame-length f, all-long fs)

pub all_append : (fs gs : List Frame) → all_bytes (fs ++ gs) ≡ all_bytes fs ++ all_bytes gs
unfolding all_bytes
all_append [] gs = refl
all_append (f ∷ fs) gs = rw (all_append fs gs, append_assoc (frame_bytes f) (all_bytes fs) (all_bytes gs))

module _ (make : Bool → Bool → List ℕ → Frame) (size : ℕ) where
  abbrev pub bytes_from : Bool → ℕ → List ℕ → List ℕ
  bytes_from first n bytes = all_bytes (frames make size first n bytes)

  -- a full frame, and the last
  abbrev pub full_bytes : Bool → List ℕ → List ℕ
  full_bytes first bytes = frame_bytes (make first false (take size bytes))

  abbrev pub last_bytes : Bool → List ℕ → List ℕ
  last_bytes first bytes = frame_bytes (make first true bytes)

  frames-more : (first : Bool) (n : ℕ) (bytes : List ℕ) → 0 < n → bytes_from first n bytes ≡ full_bytes first bytes ++ bytes_from false (n - 1) (drop size bytes)
  unfolding frames all_bytes
  frames-more first zero bytes h = absurd (not-suc-le-zero h)
  frames-more first (suc n) bytes h = rw sub-one

  frames-last : (first : Bool) (n : ℕ) (bytes : List ℕ) → n ≡ 0 → bytes_from first n bytes ≡ last_bytes first bytes
  unfolding frames all_bytes
  frames-last first n bytes e = rw (e, append-nil)

  -- where each frame carries the payload that it is made of, n full frames and the last have eight bytes each and all the bytes
  module _ (carries : (first last : Bool) (bytes : List ℕ) → (make first last bytes).payload ≡ bytes) where
    pub frames-total : (first : Bool) (n : ℕ) (bytes : List ℕ) → total (frames make size first n bytes) ≡ 8 * (n + 1) + length bytes
    unfolding frames total
    frames-total first zero bytes = omega (arith, ap length (carries first true bytes))
    frames-total first (suc n) bytes =
        let halves : length (take size bytes) + length (drop size bytes) ≡ length bytes = sym (length-append (take size bytes) (drop size bytes)) ∙ ap length (take-append-drop size bytes) in
        omega (arith, ap length (carries first false (take size bytes)), frames-total false n (drop size bytes), halves)

  -- What holds before each turn of the loop that puts the frames: those still to put make of the output what all make of it at first.
  pub record Going (bytes all out₀ : List ℕ) (at : ℕ) (out : List ℕ) (q p left : ℕ) (first : Bool) : Type 0 where
    pub same : length out ≡ length out₀
    pub reach : q + length (bytes_from first left (drop p bytes)) ≡ at + length all
    pub goes : write out₀ at all ≡ write out q (bytes_from first left (drop p bytes))
    pub within : p + left * size ≤ length bytes

  module _ (bytes all out₀ : List ℕ) (at : ℕ) (out : List ℕ) (q p left : ℕ) (first : Bool) (g : Going bytes all out₀ at out q p left first) where
    module _ (h : 0 < left) where
      fewer : p + size + (left - 1) * size ≤ length bytes
      fewer = go left h g.within
        where
          go : (n : ℕ) → 0 < n → p + n * size ≤ length bytes → p + size + (n - 1) * size ≤ length bytes
          go zero k l = absurd (not-suc-le-zero k)
          go (suc n) k l = rw sub-one (omega arith)

      abbrev front : List ℕ
      front = full_bytes first (drop p bytes)

      abbrev behind : List ℕ
      behind = bytes_from false (left - 1) (drop (p + size) bytes)

      rest : bytes_from first left (drop p bytes) ≡ front ++ behind
      rest = frames-more first left (drop p bytes) h ∙ ap (λ (l : List ℕ). front ++ bytes_from false (left - 1) l) (drop-drop size p bytes)

      pub frame-fits : q + length front ≤ at + length all
      frame-fits = omega (arith, g.reach, ap length rest, length-append front behind)

      pub goes_on : (out' : List ℕ) (n : ℕ) → out' ≡ write out q front → n ≡ length front → Going bytes all out₀ at out' (q + n) (p + size) (left - 1) false
      goes_on out' n e k = record {
        same = rw e (length-write out q front ∙ g.same);
        reach = omega (arith, g.reach, ap length rest, length-append front behind, k);
        goes = g.goes ∙ rw (rest, e, k) (sym (write-twice out q front behind));
        within = fewer;
      }

    module _ (h : left ≡ 0) where
      pub last_fits : q + length (last_bytes first (drop p bytes)) ≡ at + length all
      last_fits = rw (← frames-last first left (drop p bytes) h) g.reach

      pub ended : write out₀ at all ≡ write out q (last_bytes first (drop p bytes))
      ended = g.goes ∙ rw (frames-last first left (drop p bytes) h)

-- each frame carries the payload that it is made of
pub carries : (r : Frames) (first last : Bool) (payload : List ℕ) → (frame_for r first last payload).payload ≡ payload
carries r first last payload = by r.kind
  where
    by : (k : Kind) → (frame_of k r.how first last payload).payload ≡ payload
    by (Command with-data) = refl
    by Data = refl

pub made_long : (r : Frames) (first last : Bool) (payload : List ℕ) → length payload + 8 ≡ length (frame_bytes (frame_for r first last payload))
made_long r first last payload = omega (arith, frame-length (frame_for r first last payload), ap length (carries r first last payload))

-- a frame that is put in two parts, its header and its payload
pub in_two : (r : Frames) (first last : Bool) (payload : List ℕ) (h : Header) (out : List ℕ) (at : ℕ) → h ≡ header_for (frame_for r first last payload)
    → write (write out at (header_bytes h)) (at + 8) payload ≡ write out at (frame_bytes (frame_for r first last payload))
in_two r first last payload h out at e =
    let f : Frame = frame_for r first last payload in
    ap (λ (x : Header). write (write out at (header_bytes x)) (at + 8) payload) e
    ∙ ap (write (write out at (header_bytes (header_for f))) (at + 8)) (sym (carries r first last payload))
    ∙ header_then f out at
