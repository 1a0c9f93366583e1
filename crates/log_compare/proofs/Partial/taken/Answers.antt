-- `log_compare::Partial::taken` meets its contract, by the three ways: a body goes on, a head goes on, a head is whole.
-- Assumes nothing.
use Rattle.std.proofs.Common.{◌≡◌, length, arith}
use Rattle.log_compare.proofs.Held.{count, body-taken, head-taken, whole-taken}
use Rattle.log_compare.proofs.Partial.taken.Goals as goal

pub returns-then-self-gt0 : goal.returns-then-self-gt0
returns-then-self-gt0 c =
    let six : length c.args.self.head ≡ 6 = omega arith in
    rw c.saturating_sub.ensures (body-taken c.args.self six c.args.bytes.now (omega arith))

pub returns-then-bytes-missing : goal.returns-then-bytes-missing
returns-then-bytes-missing c =
    let six : length c.args.self.head ≡ 6 = omega arith in
    rw c.joined-head.ensures (head-taken c.args.self six c.args.bytes.now (omega arith) (omega (arith, count c.args.self six)))

pub returns : goal.returns
returns c =
    let six : length c.args.self.head ≡ 6 = omega arith in
    rw (c.body_length.ensures, c.joined-head.ensures)
    (whole-taken c.args.self six c.args.bytes.now (omega (arith, count c.args.self six)) (omega arith))
