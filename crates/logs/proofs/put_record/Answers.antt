-- `logs::put_record` meets its contract: the length in four bytes, then the kind and the body as they stand.
-- Assumes nothing.
use Rattle.std.proofs.Common.{◌≡◌, ℕ, ◌+◌, ◌-◌, ◌/◌, ◌++◌, ◌∙◌, List, take, drop, length, arith}
use Rattle.std.proofs.Math.Seq.{take-length}
use Rattle.std.proofs.lemmas.List.{length-drop}
use Rattle.std.specs.Int.{w64, to_le_bytes}
use Rattle.fields.specs.Fields.{number}
use Rattle.buffer.specs.Bytes.{write}
use Rattle.buffer.proofs.WriteLaws.{write-twice}
use Rattle.logs.specs.Steps.{widened}
use Rattle.logs.proofs.put_record.Goals as goal

low_four : (n : ℕ) → take 4 (to_le_bytes w64 n) ≡ (number 4).put n
low_four n =
    let a : n / 256 / 256 ≡ n / 65536 = omega arith in
    let b : n / 65536 / 256 ≡ n / 16777216 = omega arith in
    rw (a, b)

joined : (out : List ℕ) (to n : ℕ) (rest : List ℕ) → write (write out to ((number 4).put n)) (to + 4) rest ≡ write out to ((number 4).put n ++ rest)
joined out to n rest = write-twice out to ((number 4).put n) rest

behind : (r : List ℕ) → take (length r - 2) (drop 2 r) ≡ drop 2 r
behind r = rw (← length-drop 2 r) (take-length (drop 2 r))

pub returns : goal.returns
unfolding widened
returns c = c.put-2.ensures ∙ rw (c.put.ensures, c.to_le_bytes.ensures, low_four, behind c.args.stored.now) (joined c.args.out.now c.args.to (length c.args.stored.now - 4) (drop 2 c.args.stored.now))
