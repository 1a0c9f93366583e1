-- `double_keys::blocks::take_block` meets its contract. The loop's invariant: the row has the keys passed, and its places lie in s.
-- Assumes nothing.
use Rattle.std.proofs.Common.{refl}
use Rattle.double_keys.proofs.BlockLaws.{taking, taken-all, taken-full, taken-one}
use Rattle.double_keys.proofs.blocks.take_block.Goals as goal

pub loop-e-init : goal.loop-e-init
loop-e-init c = (refl, taking _ _ _)

pub loop-e-preserved : goal.loop-e-preserved
loop-e-preserved c =
    let g = rw (← c.loop-e.invariant.0) at c.in-Some.ensures.steps in
    (refl, taken-one c.loop-e.invariant.1 c.in-Some.e c.next.new.self g c.keep-count.ensures c.if-starts-count.false)

pub returns-then-starts-count : goal.returns-then-starts-count
returns-then-starts-count c =
    let g = rw (← c.loop-e.invariant.0) at c.in-Some.ensures.steps in
    taken-full c.loop-e.invariant.1 c.in-Some.e c.next.new.self g c.keep-count.ensures c.if-starts-count.true

pub returns : goal.returns
returns c =
    let g = rw (← c.loop-e.invariant.0, c.in_default.is) at c.next.ensures.steps in
    taken-all c.loop-e.invariant.1 c.next.new.self g
