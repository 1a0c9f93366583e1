-- `frame::put_record` meets its contract: the nine bytes before the command or the payload, then those.
-- Assumes nothing.
use Rattle.std.proofs.Common.{◌≡◌, ℕ, suc, ◌+◌, ◌/◌, ◌%◌, List, [], ◌∷◌, length, sym, ◌∙◌, arith}
use Rattle.buffer.specs.Bytes.{write}
use Rattle.buffer.proofs.WriteLaws.{write-out, write-twice}
use Rattle.frame.specs.Records.{record_of, request_record}
use Rattle.frame.proofs.put_record.Goals as goal

size : (kind request third : ℕ) (bytes : List ℕ) → length bytes + 3 + 6 ≡ length (request_record kind request third bytes)
unfolding record_of
size kind request third bytes = omega arith

-- the head as the code makes it
abbrev head_of : ℕ → ℕ → ℕ → ℕ → List ℕ
head_of kind request third body = body % 256 ∷ body / 256 % 256 ∷ body / 65536 % 256 ∷ body / 16777216 % 256 ∷ kind % 256 ∷ kind / 256 % 256 ∷ request % 256 ∷ request / 256 % 256 ∷ third ∷ []

in_two : (out : List ℕ) (at kind request third : ℕ) (bytes : List ℕ)
    → write (write out at (head_of kind request third (length bytes + 3))) (at + 9) bytes ≡ write out at (request_record kind request third bytes)
unfolding record_of
in_two out at kind request third bytes =
    let n : length bytes + 3 ≡ suc (suc (suc (length bytes))) = omega arith in
    rw n (write-twice out at (head_of kind request third (suc (suc (suc (length bytes))))) bytes)

pub returns-then-out-at : goal.returns-then-out-at
returns-then-out-at c = (size _ _ _ _, sym (write-out _ _ _ c.if-out-at.true))

pub returns : goal.returns
returns c =
    let a = c.args in
    (size a.kind a.request a.third a.bytes.now, c.put-2.ensures ∙ rw (c.put.ensures, c.to_le_bytes-size.ensures, c.to_le_bytes-kind.ensures, c.to_le_bytes-request.ensures) (in_two a.out.now a.at a.kind a.request a.third a.bytes.now))
