-- `double_keys::stands` meets its contract. The loop's invariant: the key stands before those below index low and after those from high on.
-- Assumes nothing.
use mathlib.Core.Path.{◌≡◌, sym, ◌∙◌}
use mathlib.Core.List.{List}
use Prim.Native.Nat.{ℕ, ◌+◌, ◌/◌, ◌<◌}
use Rattle.std.proofs.Common.{arith}
use Rattle.std.specs.declared.cmp.Ordering.{Ordering}
use Rattle.keys.specs.Order.{compare}
use Rattle.keys.proofs.Before.{at_one}
use Rattle.keys.proofs.Equal.{equal-refl}
use Rattle.double_keys.proofs.KeyLists.{kept-none, kept-one}
use Rattle.double_keys.proofs.Halves.{between-low, between-high, other}
use Rattle.double_keys.proofs.blocks.stands.Goals as goal

-- what the comparison says of the keys themselves
said : (k x y : List ℕ) (o : Ordering) → o ≡ compare k x → x ≡ y → compare k y ≡ o
said k x y o e f = sym (e ∙ rw f)

pub key_at-requires : goal.key_at-requires
key_at-requires c = c.requires.places _ (omega (arith, c.loop-low.invariant.upto, c.loop-low-test.true))

pub returns-in-Equal : goal.returns-in-Equal
returns-in-Equal c =
    let p = c.requires in
    let i : (c.loop-low.low + c.loop-low.high) / 2 < c.args.row.n = omega (arith, c.loop-low.invariant.upto, c.loop-low-test.true) in
    sym (kept-one _ _ _ _ p.in_s.0 p.in_s.1 _ _ (p.places _ i) (rw (← at_one _ _ (said _ _ _ _ c.compare.ensures c.key_at.ensures ∙ c.in-Equal.is)) (equal-refl _)))

pub loop-low-preserved-in-Less : goal.loop-low-preserved-in-Less
loop-low-preserved-in-Less c =
    between-low _ _ _ _ _ c.requires.falls _ _ _ c.loop-low.invariant _ (omega (arith, c.loop-low-test.true)) (said _ _ _ _ c.compare.ensures c.key_at.ensures ∙ c.in-Less.is)

pub loop-low-preserved : goal.loop-low-preserved
loop-low-preserved c =
    between-high _ _ _ _ _ c.requires.falls _ _ _ c.loop-low.invariant _ (omega (arith, c.loop-low-test.true)) (omega (arith, c.loop-low-test.true))
    (said _ _ _ _ c.compare.ensures c.key_at.ensures ∙ c.in-Greater.is)

pub returns : goal.returns
returns c =
    let p = c.requires in
    sym (kept-none _ _ _ _ p.in_s.0 p.in_s.1 _ (p.all _ (other _ _ _ _ _ p.falls _ _ _ c.loop-low.invariant (omega arith))))
