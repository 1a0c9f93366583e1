-- `double_keys::all_within` meets its contract. The loop's invariant: the places passed are within the size.
-- Assumes nothing.
use mathlib.Core.Path.{◌≡◌, refl, sym}
use mathlib.Core.Bool.{Bool, true, false, and-false}
use mathlib.Core.List.{List}
use Prim.Native.Nat.{ℕ, zero, suc, ◌+◌, ◌≤◌, ◌<◌}
use native.Mathlib.Numerals.{add-one}
use Rattle.std.proofs.Common.{arith}
use lib.ListN.{get_or}
use lib.Dec.{ltb}
use borrow.Author.Tests.{ltb-true, ltb-false, le-leb, lt-leb}
use Rattle.double_keys.specs.Row.{within}
use Rattle.double_keys.proofs.rows.all_within.Goals as goal

module _ (starts stops : List ℕ) (size : ℕ) where
  -- one more place
  more : (i : ℕ) → within starts stops i size ≡ true → get_or starts i 0 ≤ get_or stops i 0 → get_or stops i 0 ≤ size → within starts stops (i + 1) size ≡ true
  unfolding within
  more i w h k = rw (add-one, w, le-leb _ _ h, le-leb _ _ k)

  -- a place that is not within is one of all
  kept_out : (i n : ℕ) → i < n → within starts stops (suc i) size ≡ false → within starts stops n size ≡ false
  unfolding within
  kept_out i zero h e = absurd (omega arith)
  kept_out i (suc n) h e = by (ltb i n) refl (λ l. kept_out i n l e)
    where
      by : (t : Bool) → ltb i n ≡ t → (i < n → within starts stops n size ≡ false) → within starts stops (suc n) size ≡ false
      by true f before = rw (before (ltb-true i n f))
      by false f before = let g = ltb-false i n f in let q : i ≡ n = omega arith in rw q at e

  backward : (i n : ℕ) → i < n → get_or stops i 0 < get_or starts i 0 → within starts stops n size ≡ false
  unfolding within
  backward i n h l = kept_out i n h (rw (lt-leb _ _ l, and-false))

  outside : (i n : ℕ) → i < n → size < get_or stops i 0 → within starts stops n size ≡ false
  unfolding within
  outside i n h l = kept_out i n h (rw (lt-leb _ _ l, and-false))

pub loop-i-init : goal.loop-i-init
unfolding within
loop-i-init c = refl

pub returns-then-stops-i : goal.returns-then-stops-i
returns-then-stops-i c = sym (backward _ _ _ c.loop-i.i _ (omega arith) c.if-stops-i.true)

pub returns-then-size-stops : goal.returns-then-size-stops
returns-then-size-stops c = sym (outside _ _ _ c.loop-i.i _ (omega arith) c.if-size-stops.true)

pub loop-i-preserved : goal.loop-i-preserved
loop-i-preserved c =
    more _ _ _ c.loop-i.i c.loop-i.invariant c.if-stops-i.false c.if-size-stops.false

pub returns : goal.returns
returns c =
    let e : c.loop-i.i ≡ c.args.n = omega arith in
    sym (rw e at c.loop-i.invariant)
