-- The frames that carry a command and its data, their bytes, and the total, as document 02, E2, states them.
-- These are definitions: they assume nothing.
use Rattle.std.specs.Prelude.{ℕ, zero, suc, ◌+◌, ◌-◌, ◌/◌, Bool, true, false, cond, ◌&&◌, not, List, [], ◌∷◌, ◌++◌, length, take, drop}
use Rattle.frame.specs.Frame.{Frame, frame_bytes}
use Rattle.sender.specs.declared.Wishes.{Wishes}

-- ---- the flags

-- a flag's value where it is set
abbrev pub flag_if : ℕ → Bool → ℕ
flag_if value b = cond b value 0

-- 0x01 beginning, 0x02 end; 0x04, apply encoding, on none
unfoldable pub stream_flags : Bool → Bool → ℕ
stream_flags begin end = flag_if 0x01 begin + flag_if 0x02 end

-- 0x01 new or 0x02 continuation, 0x04 more follow, 0x08 data will follow
unfoldable pub command_flags : Bool → Bool → Bool → ℕ
command_flags with-data first last = cond first 0x01 0x02 + flag_if 0x04 (not last) + flag_if 0x08 with-data

-- 0x01 more or 0x02 last
unfoldable pub data_flags : Bool → ℕ
data_flags last = cond last 0x02 0x01

-- ---- one frame

-- beginning goes on the first frame, end on the last: a command frame is the last of all only where there is no data
abbrev pub command_frame : Wishes → Bool → Bool → Bool → List ℕ → Frame
command_frame how with-data first last payload = record {
  request = how.request;
  stream = how.stream;
  stream_flags = stream_flags (first && how.begin) (last && not with-data && how.end);
  type = 1;
  flags = command_flags with-data first last;
  payload = payload;
}

-- a data frame is never the first of all
abbrev pub data_frame : Wishes → Bool → Bool → List ℕ → Frame
data_frame how first last payload = record {
  request = how.request;
  stream = how.stream;
  stream_flags = stream_flags false (last && how.end);
  type = 2;
  flags = data_flags last;
  payload = payload;
}

-- ---- the frames of one type

-- n full frames, then the last with the rest. A frame is made of whether it is the first and whether it is the last of its type.
unfoldable pub frames : (Bool → Bool → List ℕ → Frame) → ℕ → Bool → ℕ → List ℕ → List Frame
frames make size first zero bytes = make first true bytes ∷ []
frames make size first (suc n) bytes = make first false (take size bytes) ∷ frames make size false n (drop size bytes)

-- how many full frames go before the last of n bytes: the last is empty only where there are no bytes
unfoldable pub full_frames : ℕ → ℕ → ℕ
full_frames size n = (n - 1) / size

unfoldable pub command_frames : Wishes → Bool → List ℕ → List Frame
command_frames how with-data command = frames (command_frame how with-data) how.size true (full_frames how.size (length command)) command

unfoldable pub data_frames : Wishes → List ℕ → List Frame
data_frames how bytes = frames (data_frame how) how.size true (full_frames how.size (length bytes)) bytes

-- ---- all frames

unfoldable pub message_frames : Wishes → List ℕ → Bool → List ℕ → List Frame
message_frames how command with-data bytes = command_frames how with-data command ++ cond with-data (data_frames how bytes) []

-- their bytes
unfoldable pub all_bytes : List Frame → List ℕ
all_bytes [] = []
all_bytes (f ∷ fs) = frame_bytes f ++ all_bytes fs

-- the total: eight bytes and the payload of each
unfoldable pub total : List Frame → ℕ
total [] = 0
total (f ∷ fs) = 8 + length f.payload + total fs
