-- `double_keys::blocks::double_far` meets its contract. The loop's invariant: the search goes on with the entries to come, and the rows
-- are as long as they were. Assumes nothing.
use Rattle.std.proofs.Common.{sym, ◌∙◌}
use Rattle.keys.specs.Keys.{twice}
use Rattle.entries.specs.Entries.{contents}
use Rattle.double_keys.proofs.BlockLaws.{twice-first, block_turn}
use Rattle.double_keys.proofs.blocks.double_far.Goals as goal

pub returns-then-stands_again : goal.returns-then-stands_again
returns-then-stands_again c =
    sym (c.loop-e.invariant.0 ∙ twice-first c.loop-e.rest c.next.new.self c.in-Some.e c.in-Some.ensures.steps ∙ rw (← c.stands_again.ensures, c.if-stands_again.true))

pub returns-then-block_double : goal.returns-then-block_double
returns-then-block_double c =
    let t = block_turn c.loop-e.rest c.next.new.self c.from_here.result c.in-Some.e _ _ _ c.take_block-b.result c.in-Some.ensures.steps c.from_here.ensures c.take_block-b.ensures _ _ c.stands_again.ensures c.if-stands_again.false c.block_double.ensures in
    sym (c.loop-e.invariant.0 ∙ t ∙ rw c.if-block_double.true)

pub loop-e-preserved : goal.loop-e-preserved
loop-e-preserved c =
    let t = block_turn c.loop-e.rest c.next.new.self c.from_here.result c.in-Some.e _ _ _ c.take_block-b.result c.in-Some.ensures.steps c.from_here.ensures c.take_block-b.ensures _ _ c.stands_again.ensures c.if-stands_again.false c.block_double.ensures in
    let i = c.loop-e.invariant in
    (i.0 ∙ t ∙ rw c.if-block_double.false, c.take_block-b.ensures.long ∙ i.1, c.take_block-b.auto.stops ∙ i.2)

pub returns : goal.returns
unfolding contents twice
returns c = sym (c.loop-e.invariant.0 ∙ rw (c.in_default.ensures.steps.0.0))
