-- `double_keys::blocks::one_stands` meets its contract. The loop's invariant: the search goes on with the entries to come.
-- Assumes nothing.
use Rattle.std.proofs.Common.{refl, sym, ◌∙◌}
use Rattle.entries.specs.Entries.{contents}
use Rattle.double_keys.specs.Blocks.{meet}
use Rattle.double_keys.proofs.BlockLaws.{meet-given}
use Rattle.double_keys.proofs.blocks.one_stands.Goals as goal

pub loop-e-init : goal.loop-e-init
loop-e-init c = rw c.into_iter-e-iterator.ensures.into_iter_gives (tt, tt, c.requires.same, refl)

pub returns-then-entry_stands : goal.returns-then-entry_stands
returns-then-entry_stands c =
    let m = meet-given c.loop-e.e-iterator c.next.new.self c.in-Some.e c.in-Some.ensures.steps in
    sym (c.loop-e.invariant.3 ∙ m _ ∙ rw (c.loop-e.invariant.2, ← c.entry_stands.ensures, c.if-entry_stands.true))

pub loop-e-preserved : goal.loop-e-preserved
loop-e-preserved c =
    let g = c.in-Some.ensures.steps in
    let m = meet-given c.loop-e.e-iterator c.next.new.self c.in-Some.e g in
    (tt, tt, g.1 ∙ c.loop-e.invariant.2, c.loop-e.invariant.3 ∙ m _ ∙ rw (c.loop-e.invariant.2, ← c.entry_stands.ensures, c.if-entry_stands.false))

pub returns : goal.returns
unfolding contents meet
returns c = sym (c.loop-e.invariant.3 ∙ rw (c.in-None.ensures.steps.0.0))
