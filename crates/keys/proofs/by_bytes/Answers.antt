-- `keys::by_bytes` meets its contract. The loop's invariant: what follows the i bytes passed decides.
-- Assumes nothing.
use Rattle.std.proofs.Common.{sym, arith, ◌∙◌}
use Rattle.keys.proofs.Before.{differs, agrees, all-agree}
use Rattle.keys.proofs.by_bytes.Goals as goal

pub returns-then-a-i : goal.returns-then-a-i
returns-then-a-i c =
    c.cmp.ensures ∙ differs _ _ c.loop-i.i c.requires (omega (arith, c.loop-i-test.true)) (λ e. omega (arith, c.if-a-i.true)) ∙ sym c.loop-i.invariant

pub loop-i-preserved : goal.loop-i-preserved
loop-i-preserved c = c.loop-i.invariant ∙ agrees _ _ c.loop-i.i c.requires (omega (arith, c.loop-i-test.true)) (omega (arith, c.if-a-i.false))

pub returns : goal.returns
returns c = sym (c.loop-i.invariant ∙ all-agree _ _ c.loop-i.i c.requires (omega (arith, c.loop-i-test.false)))
