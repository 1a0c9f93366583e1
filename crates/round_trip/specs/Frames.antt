-- What is claimed of the frames of a message, beside the bytes that they carry: how full they are, on which of them the stream flags stand,
-- and their total. Proved in proofs/Frames.antt.
-- These are definitions: they assume nothing.
use Rattle.std.specs.Prelude.{ℕ, ◌≤◌, ◌<◌, ◌≡◌, Bool, false, List, [], ◌∷◌, map, length}
use Rattle.frame.specs.Frame.{Frame, flag, begins, ends}
use Rattle.sender.specs.declared.Wishes.{Wishes}
use Rattle.sender.specs.Frames.{command_frames, data_frames, message_frames, all_bytes, total}
use Rattle.buffer.specs.Answers.{Answer}
use Rattle.sender.specs.Send.{send_of}

-- ---- how full they are

-- frames of n bytes: each but the last is full, and the last is empty only where there are no bytes
pub data Filled (size n : ℕ) : List Frame → Type 0 where
  full : {f : Frame} {fs : List Frame} → length f.payload ≡ size → Filled size n fs → Filled size n (f ∷ fs)
  last : {f : Frame} → length f.payload ≤ size → (length f.payload ≡ 0 → n ≡ 0) → Filled size n (f ∷ [])

-- ---- stream flags

unfoldable pub applies_encoding : Frame → Bool
applies_encoding f = flag 0x04 f.stream_flags

-- a flag for each frame: on none, on the first only, on the last only
abbrev pub on_none : List Frame → List Bool
on_none fs = map (λ (f : Frame). false) fs

unfoldable pub on_first : Bool → List Frame → List Bool
on_first b [] = []
on_first b (f ∷ fs) = b ∷ on_none fs

unfoldable pub on_last : Bool → List Frame → List Bool
on_last b [] = []
on_last b (f ∷ []) = b ∷ []
on_last b (f ∷ g ∷ fs) = false ∷ on_last b (g ∷ fs)

-- ---- the claims

-- of all frames together: beginning on the first only, end on the last only, apply encoding on none
pub record Flagged (how : Wishes) (fs : List Frame) : Type 0 where
  pub beginning : map begins fs ≡ on_first how.begin fs
  pub ending : map ends fs ≡ on_last how.end fs
  pub encoding : map applies_encoding fs ≡ on_none fs

pub record Framed (how : Wishes) (command : List ℕ) (with-data : Bool) (bytes : List ℕ) : Type 0 where
  pub command-filled : Filled how.size (length command) (command_frames how with-data command)
  pub data_filled : Filled how.size (length bytes) (data_frames how bytes)
  pub flags : Flagged how (message_frames how command with-data bytes)

abbrev pub MessageFramed : Type 0
MessageFramed = (how : Wishes) (command : List ℕ) (with-data : Bool) (bytes : List ℕ) → 0 < how.size → Framed how command with-data bytes

-- the total is the length of the bytes
abbrev pub TotalLength : Type 0
TotalLength = (fs : List Frame) → length (all_bytes fs) ≡ total fs

-- Nothing else is a total: a call that answers 0 wrote just the frames' bytes, for which there was room, and one that answers 54 had less
-- room. (Every other answer is 50 to 53.)
pub record Exact (fs : List Frame) (room : ℕ) (a : Answer) : Type 0 where
  pub written : a.number ≡ 0 → a.written ≡ length (all_bytes fs)
  pub enough : a.number ≡ 0 → length (all_bytes fs) ≤ room
  pub short : a.number ≡ 54 → room < length (all_bytes fs)

abbrev pub ExactTotal : Type 0
ExactTotal =
    (how : Wishes) (command : List ℕ) (with-data : Bool) (bytes out : List ℕ)
    → Exact (message_frames how command with-data bytes) (length out) (send_of how command with-data bytes out)
