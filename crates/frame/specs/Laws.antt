-- What is proved of frames beside the contracts, each claim under its name: the sizes in proofs/Sizes.antt; in proofs/FrameBack.antt that
-- reading gives back what was written, whatever bytes follow.
-- These are definitions: they assume nothing.
use Rattle.std.specs.Prelude.{ℕ, ◌+◌, ◌<◌, ◌^◌, ◌≡◌, List, ◌++◌, length}
use Rattle.frame.specs.declared.Header.{Header}
use Rattle.frame.specs.Header.{header_of, header_bytes}
use Rattle.frame.specs.Frame.{Frame, frame_of, header_for, frame_bytes}
use Rattle.frame.specs.Limits.{max_payload, slot_count, longest_record, frame_area, part_start, work_area}
use Rattle.frame.specs.Records.{request_record}

-- the sizes hang together: the frame under way has room for a header and the longest payload, the longest record is that of such a frame,
-- and the work area ends with the last slot's part
pub record Sizes : Type 0 where
  pub area : frame_area ≡ 8 + max_payload
  pub longest : (kind request third : ℕ) (payload : List ℕ) → length payload ≡ max_payload → length (request_record kind request third payload) ≡ longest_record
  pub work : work_area ≡ part_start slot_count

-- the numbers fit their fields: three bytes, two bytes, and four bits each. The stream id and its flags are a byte each, as they stand.
pub record HeaderFits (h : Header) : Type 0 where
  pub length : h.length < 2 ^ 24
  pub request : h.request < 65536
  pub kind : h.kind < 16
  pub flags : h.flags < 16

abbrev pub HeaderBack : Type 0
HeaderBack = (h : Header) (rest : List ℕ) → HeaderFits h → header_of (header_bytes h ++ rest) ≡ h

abbrev pub FrameBack : Type 0
FrameBack = (f : Frame) (rest : List ℕ) → HeaderFits (header_for f) → frame_of (frame_bytes f ++ rest) ≡ f
