-- Reading gives back the header and the frame that were written: each number stands in its own bytes or bits, in which it fits, and the
-- payload is the bytes behind the eight of the header, as many as the length says. Assumes nothing.
use Prim.Native.Nat.{ℕ, ◌+◌, ◌*◌, ◌/◌, ◌%◌}
use mathlib.Core.Path.{◌≡◌, ap}
use mathlib.Core.List.{List, ◌++◌}
use native.Mathlib.Omega.{arith}
use lib.ListN.{length, take, drop}
use lib.Seq.{take-append_seam}
use Rattle.frame.specs.declared.Header.{Header}
use Rattle.frame.specs.Header.{length_of, header_of, header_bytes}
use Rattle.frame.specs.Frame.{Frame, frame_of, header_for, frame_bytes}
use Rattle.frame.specs.Laws.{HeaderFits, HeaderBack, FrameBack}

pub header-back : HeaderBack
unfolding header_of length_of header_bytes
header-back h rest fits =
    let n : h.length % 256 + 256 * (h.length / 256 % 256) + 65536 * (h.length / 65536 % 256) ≡ h.length = omega (arith, fits.length) in
    let r : h.request % 256 + 256 * (h.request / 256 % 256) ≡ h.request = omega (arith, fits.request) in
    let k : (h.kind % 16 * 16 + h.flags % 16) / 16 ≡ h.kind = omega (arith, fits.kind) in
    let g : (h.kind % 16 * 16 + h.flags % 16) % 16 ≡ h.flags = omega (arith, fits.flags) in
    rw (n, r, k, g)

pub frame-length : (f : Frame) → length (frame_bytes f) ≡ 8 + length f.payload
unfolding frame_bytes header_bytes
frame-length f = omega arith

module _ (f : Frame) (rest : List ℕ) (fits : HeaderFits (header_for f)) where
  whole-header : header_of (frame_bytes f ++ rest) ≡ header_for f
  unfolding frame_bytes header_bytes
  whole-header = header-back (header_for f) (f.payload ++ rest) fits

  pub length_back : length_of (frame_bytes f ++ rest) ≡ length f.payload
  unfolding header_of
  length_back = ap (λ (h : Header). h.length) whole-header

  payload-back : take (length f.payload) (drop 8 (frame_bytes f ++ rest)) ≡ f.payload
  unfolding frame_bytes header_bytes
  payload-back = take-append_seam f.payload rest

pub frame_back : FrameBack
unfolding frame_of
frame_back f rest fits = rw (whole-header f rest fits, length_back f rest fits, payload-back f rest fits)
