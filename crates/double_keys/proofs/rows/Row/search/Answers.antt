-- `double_keys::search` meets its contract. The outer loop's invariant: of the keys listed the first i are taken, none of them is equal to
-- another, and they stand in order. The inner loop's: the next key stands before those below index low and after those from high on.
-- Assumes nothing.
use mathlib.Core.Path.{◌≡◌, sym, ap, ◌∙◌}
use mathlib.Core.Bool.{false≢true}
use mathlib.Core.List.{List}
use Prim.Native.Nat.{ℕ, ◌+◌, ◌/◌, ◌<◌}
use Rattle.std.proofs.Common.{arith}
use Rattle.std.specs.declared.cmp.Ordering.{Ordering}
use Rattle.keys.specs.Order.{compare}
use Rattle.keys.proofs.Before.{at_one}
use Rattle.double_keys.specs.Search.{key_of}
use Rattle.double_keys.proofs.Halves.{between-low, between-high}
use Rattle.double_keys.proofs.Sorted.{taken-all, is-double, taken_more}
use Rattle.double_keys.proofs.rows.Row.search.Goals as goal

-- what the comparison says of the keys themselves
said : (k x y : List ℕ) (o : Ordering) → o ≡ compare k x → x ≡ y → compare k y ≡ o
said k x y o e f = sym (e ∙ rw f)

pub key_at-key-requires : goal.key_at-key-requires
key_at-key-requires c = c.search.invariant.1.places _ (omega (arith, c.search-test.true))

pub key_at-requires : goal.key_at-requires
key_at-requires c =
    c.search.invariant.1.places _ (omega (arith, c.loop-low.invariant.1.upto, c.loop-low-test.true, c.search-test.true))

pub loop-low-preserved-in-Less : goal.loop-low-preserved-in-Less
loop-low-preserved-in-Less c = (
  c.loop-low.invariant.0,
  between-low _ _ _ _ _ c.search.invariant.1.falls _ _ _ c.loop-low.invariant.1 _ (omega (arith, c.loop-low-test.true))
      (said _ _ _ _ c.compare.ensures c.key_at.ensures ∙ c.in-Less.is),
)

pub loop-low-preserved : goal.loop-low-preserved
loop-low-preserved c = (
  c.loop-low.invariant.0,
  between-high _ _ _ _ _ c.search.invariant.1.falls _ _ _ c.loop-low.invariant.1 _ (omega (arith, c.loop-low-test.true)) (omega (arith, c.loop-low-test.true))
      (said _ _ _ _ c.compare.ensures c.key_at.ensures ∙ c.in-Greater.is),
)

pub insert-requires : goal.insert-requires
insert-requires c = (
  omega (arith, c.loop-low.invariant.1.across, c.loop-low.invariant.1.upto),
  omega (arith, c.search-test.true, c.search.invariant.1.long, c.requires.room),
)

pub search-preserved : goal.search-preserved
search-preserved c =
    let t = c.search.invariant.1 in
    let same = t.same c.search.i (omega arith) in (
      c.loop-low.invariant.0,
      taken_more _ _ _ _ _ _ _ _ t (omega (arith, c.search-test.true)) _ (c.key_at-key.ensures ∙ ap (key_of _ _ _) same)
          _ _ c.loop-low.invariant.1 (omega arith) c.requires.rising _ _ same c.insert.ensures,
    )

pub returns-after-search : goal.returns-after-search
returns-after-search c =
    let l = c.search in
    let k = l.invariant.1 in
    record {
      long = k.long;
      places = k.places;
      double = λ e. absurd (false≢true (sym l.invariant.0 ∙ e));
      single = λ e. taken-all _ _ _ _ _ _ _ _ (omega arith) k;
    }

pub returns-in-Equal : goal.returns-in-Equal
returns-in-Equal c =
    let t = c.search.invariant.1 in
    let i : (c.loop-low.low + c.loop-low.high) / 2 < c.search.i = omega (arith, c.loop-low.invariant.1.upto, c.loop-low-test.true) in
    let is_key = c.key_at-key.ensures ∙ ap (key_of _ _ _) (t.same c.search.i (omega arith)) in
    record {
      long = t.long;
      places = t.places;
      double = λ e.
          sym (is-double _ _ _ _ _ _ _ _ t (omega (arith, c.search-test.true)) _ is_key c.args.self.in_s _ i (at_one _ _ (said _ _ _ _ c.compare.ensures c.key_at.ensures ∙ c.in-Equal.is)));
      single = λ e. absurd (false≢true (sym e));
    }
