-- What the converter answers, as document 02, E7, states it: its refusals in their order, or a log with two-byte lengths rewritten whole.
-- These are definitions: they assume nothing.
use Rattle.std.specs.Prelude.{ℕ, cond, not, List, length, ltb, Result, Ok, Err}
use Rattle.buffer.specs.Answers.{Answer, answer, refused, wrote}
use Rattle.logs.specs.Logs.{log_of, records, is_whole}
use Rattle.logs.specs.declared.Refusal.{Refusal}
use Rattle.logs.specs.declared.Refusal.TheVariants.{EndsInside, ShortOutput}

-- the records of an old log in the new form
unfoldable pub wider : List ℕ → List ℕ
wider log = log_of 4 (records 2 log)

-- 70 the log ends inside a record; 71, tried second, the output is shorter than the exact total
unfoldable pub convert_of : List ℕ → List ℕ → Answer
convert_of log out =
    cond (not (is_whole 2 log)) (refused 70 out)
    (cond (ltb (length out) (length (wider log))) (refused 71 out)
    (wrote (wider log) out))

-- the number of a refusal
abbrev pub number_of : Refusal → ℕ
number_of EndsInside = 70
number_of ShortOutput = 71

-- what the code's result stands for, with the output then: 0 and the bytes written, or the refusal's number
abbrev pub answered : Result ℕ Refusal → List ℕ → Answer
answered (Ok written) out = answer 0 written out
answered (Err refusal) out = answer (number_of refusal) 0 out
