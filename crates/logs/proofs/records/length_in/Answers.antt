-- `logs::length_in` meets its contract: from the front on, all bytes make the number.
-- Assumes nothing.
use Rattle.std.proofs.Common.{◌≡◌, ◌-◌, length, arith}
use Rattle.logs.specs.Logs.{claimed}
use Rattle.logs.proofs.records.length_in.Goals as goal

pub returns : goal.returns
unfolding claimed
returns c =
    let e : c.loop-i.i ≡ 0 = omega arith in
    let l : length c.args.field.now - 0 ≡ length c.args.field.now = omega arith in
    rw (e, l) at c.loop-i.invariant
