-- `double_keys::keep_keys` meets its contract. The loop's invariant: the keys passed are byte strings, and the row has them.
-- Assumes nothing.
use Rattle.std.proofs.Common.{refl, sym, ◌∙◌}
use mathlib.Core.List.{append-nil}
use Rattle.entries.specs.Entries.{all, contents}
use Rattle.double_keys.proofs.RowLaws.{begun, turn}
use Rattle.double_keys.proofs.BlockLaws.{first}
use Rattle.double_keys.proofs.keep_keys.Goals as goal

pub loop-e-init : goal.loop-e-init
loop-e-init c = rw c.into_iter-e-iterator.ensures.into_iter_gives (tt, tt, refl, refl, refl, begun _ _ _ _ _ _)

pub returns-then-not-is_keyed : goal.returns-then-not-is_keyed
unfolding all
returns-then-not-is_keyed c =
    c.loop-e.invariant.4 ∙ rw (first c.loop-e.e-iterator c.next.new.self c.in-Some.e c.in-Some.ensures.steps, sym c.is_keyed.ensures ∙ c.if-not-is_keyed.true)

pub loop-e-preserved : goal.loop-e-preserved
unfolding all
loop-e-preserved c =
    let i = c.loop-e.invariant in
    let g = c.in-Some.ensures.steps in
    let read = rw (i.2, i.3) at g.0.1 in
    (tt, tt, g.1 ∙ i.2, g.2 ∙ i.3, i.4 ∙ rw (first c.loop-e.e-iterator c.next.new.self c.in-Some.e g, sym c.is_keyed.ensures ∙ c.if-not-is_keyed.false), rw (g.0.2, g.0.3) (turn i.5 g.0.0 read c.keep-k.ensures).on)

pub returns : goal.returns
unfolding all contents
returns c =
    let i = c.loop-e.invariant in
    let e = rw (i.2, i.3) at c.in-None.ensures.steps.0.0 in
    record { strings = i.4 ∙ rw (i.2, i.3, e); within = i.5.within; same = λ h. i.5.same h ∙ rw (e, append-nil) }
