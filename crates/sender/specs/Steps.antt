-- What private functions of this crate answer. No public promise cites it.
-- These are definitions: they assume nothing.
use Rattle.std.specs.Prelude.{Bool, true, cond, ◌||◌, List, ℕ, ◌+◌, ◌-◌, ◌*◌, ltb, leb, eqb, Option, Some, None, Result, Ok, Err}
use Rattle.command_map.specs.declared.Refusal as check
use Rattle.command_map.specs.CommandMap as map
use Rattle.frame.specs.Frame.{Frame, is_even}
use Rattle.sender.specs.declared.Wishes.{Wishes}
use Rattle.sender.specs.declared.frames.Kind.{Kind}
use Rattle.sender.specs.declared.frames.Kind.TheVariants.{Command, Data}
use Rattle.sender.specs.declared.frames.Frames.{Frames}
use Rattle.sender.specs.Frames.{command_frame, data_frame, frames, all_bytes}
use Rattle.sender.specs.Send.{max_size}

-- 0 or the number of the check's refusal
abbrev pub check_number : {A : Type 0} → Result A check.Refusal → ℕ
check_number (Ok x) = 0
check_number (Err r) = map.refusal_number r

-- 50 or 51, else 0
unfoldable pub wish_number : Wishes → ℕ
wish_number how = cond (is_even how.request || is_even how.stream) 50 (cond (eqb how.size 0 || ltb max_size how.size) 51 0)

-- a frame of a type, the first or not, the last or not
abbrev pub frame_of : Kind → Wishes → Bool → Bool → List ℕ → Frame
frame_of (Command with-data) how first last payload = command_frame how with-data first last payload
frame_of Data how first last payload = data_frame how first last payload

abbrev pub frame_for : Frames → Bool → Bool → List ℕ → Frame
frame_for r = frame_of r.kind r.how

-- the bytes of the frames of one type, n full ones and the last
abbrev pub type_bytes : Frames → ℕ → List ℕ → List ℕ
type_bytes r n bytes = all_bytes (frames (frame_for r) r.how.size true n bytes)

-- what is left of the room behind the frames of so many bytes, n full ones and the last
abbrev pub room_left : ℕ → ℕ → ℕ → Option ℕ
room_left room n bytes = let total = 8 * (n + 1) + bytes in cond (leb total room) (Some (room - total)) None
