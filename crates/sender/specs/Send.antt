-- What the sending call answers, as document 02, E2, states it: its refusals in their order, or the frames.
-- These are definitions: they assume nothing.
use Rattle.std.specs.Prelude.{ℕ, Bool, cond, ◌||◌, not, List, [], length, ltb, eqb, Option, Some, None, Result, Ok, Err}
use Rattle.std.specs.Borrow.{Bor}
use Rattle.buffer.specs.Answers.{Answer, answer, refused}
use Rattle.buffer.specs.Bytes.{write}
use Rattle.frame.specs.Frame.{Frame, is_even}
use Rattle.frame.specs.Limits.{max_command}
use Rattle.command.specs.Command.{checked, number_of}
use Rattle.sender.specs.declared.Wishes.{Wishes}
use Rattle.sender.specs.declared.Refusal.{Refusal}
use Rattle.sender.specs.declared.Refusal.TheVariants.{EvenId, Size, BadCommand, LongCommand, ShortOutput}
use Rattle.sender.specs.Frames.{message_frames, all_bytes, total}

-- the largest payload size that may be wished
abbrev pub max_size : ℕ
max_size = 4096

-- the number of each refusal
abbrev pub refusal_number : Refusal → ℕ
refusal_number EvenId = 50
refusal_number Size = 51
refusal_number BadCommand = 52
refusal_number LongCommand = 53
refusal_number ShortOutput = 54

-- 0 or the number of the refusal
abbrev pub refused_by : {A : Type 0} → Result A Refusal → ℕ
refused_by (Ok x) = 0
refused_by (Err r) = refusal_number r

-- the bytes written, or the refusal, with the output after it
abbrev pub answered : Result ℕ Refusal → List ℕ → Answer
answered (Ok n) out = answer 0 n out
answered (Err r) out = refused (refusal_number r) out

-- the bytes of the data, where there is some
abbrev pub data_bytes : Option (Bor (List ℕ)) → List ℕ
data_bytes (Some bytes) = bytes.now
data_bytes None = []

-- output past the bytes written stays
abbrev pub wrote : List Frame → List ℕ → Answer
wrote fs out = answer 0 (total fs) (write out 0 (all_bytes fs))

-- 54 output too short for the exact total
unfoldable pub frames_into : List Frame → List ℕ → Answer
frames_into fs out = cond (ltb (length out) (total fs)) (refused 54 out) (wrote fs out)

-- 50 an even request or stream id, 51 a size outside the range, 52 a command the check would refuse, 53 a command over 2,048 bytes
unfoldable pub send_of : Wishes → List ℕ → Bool → List ℕ → List ℕ → Answer
send_of how command with-data bytes out =
    cond (is_even how.request || is_even how.stream) (refused 50 out)
    (cond (eqb how.size 0 || ltb max_size how.size) (refused 51 out)
    (cond (not (eqb (number_of (checked command)) 0)) (refused 52 out)
    (cond (ltb max_command (length command)) (refused 53 out)
    (frames_into (message_frames how command with-data bytes) out))))
