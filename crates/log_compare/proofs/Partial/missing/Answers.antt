-- `log_compare::Partial::missing` meets its contract, by how many bytes of a head are held.
-- Assumes nothing.
use Rattle.std.proofs.Common.{◌≡◌, length, arith}
use Rattle.log_compare.proofs.Held.{count}
use Rattle.log_compare.proofs.Partial.missing.Goals as goal

pub returns : goal.returns
returns c =
    let six : length c.args.self.head ≡ 6 = omega arith in
    rw (count c.args.self six)
