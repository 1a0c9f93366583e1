-- `loose::skip` meets its contract, by the byte behind the first.
-- Assumes nothing.
use Rattle.std.proofs.Common.{refl, arith}
use Rattle.loose.proofs.ScanLaws.{by-second}
use Rattle.loose.proofs.skip.Goals as goal

pub returns : goal.returns
returns c =
    let there = c.in_ok-n.ensures.lookup.3 in
    by-second _ _ _ c.in_ok-n.field-0.now _ refl (there.1 0) (omega arith) there.0 c.if-b-ne24.false (omega arith) c.behind_of.ensures
