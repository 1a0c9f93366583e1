-- The cycle of calls {read_array, read_map, read_value} meets its contracts: the value by its item, a pair by its key and its value.
-- Assumes nothing.
use Rattle.std.proofs.Common.{rules, ◌≡◌, ℕ, zero, suc, ◌-◌, List, Option, None, refl, ◌∙◌}
use native.Mathlib.Numerals.{sub-one}
use Rattle.cbor.specs.declared.Item.{Item}
use Rattle.cbor.specs.Cbor.{item_at, key, pair, value, value_of}
use Rattle.cbor.proofs.Others.{no_container}
use Rattle.cbor.proofs.+read_array_read_map_read_value.Goals as goal

-- a value at one level or more, by its item
deeper : (s : List ℕ) (l at : ℕ) → (l ≡ 0 → ⊥) → value s l at ≡ value_of s (value s (l - 1)) (item_at s at)
unfolding value
deeper s zero at h = absurd (h refl)
deeper s (suc l) at h = rw sub-one

pub read_map-repeat-returns-in_err-stop : goal.read_map-repeat-returns-in_err-stop
unfolding pair
read_map-repeat-returns-in_err-stop t c = search rules

pub read_map-repeat-returns : goal.read_map-repeat-returns
unfolding pair
read_map-repeat-returns t c = search rules

pub read_value-returns-then-levels-eq0 : goal.read_value-returns-then-levels-eq0
unfolding value key
read_value-returns-then-levels-eq0 t c = rw (c.if-levels-eq0.true, ← c.read_item-x.ensures) c.scalar.ensures

-- the same of an item that was read
by_item : (s : List ℕ) (l at : ℕ) (x : Option Item) → (l ≡ 0 → ⊥) → x ≡ item_at s at → value s l at ≡ value_of s (value s (l - 1)) x
by_item s l at x h e = rw e (deeper s l at h)

pub read_value-returns-in_err-n : goal.read_value-returns-in_err-n
read_value-returns-in_err-n t c = rw (by_item _ _ _ None c.if-levels-eq0.false (c.in_err-n.ensures)) c.from_residual.ensures

pub read_value-returns-in-Array : goal.read_value-returns-in-Array
read_value-returns-in-Array t c =
    rw (by_item _ _ _ _ c.if-levels-eq0.false (c.in_ok-n.ensures), c.in-Array.is) c.read_array.ensures

pub read_value-returns-in-Map : goal.read_value-returns-in-Map
read_value-returns-in-Map t c =
    rw (by_item _ _ _ _ c.if-levels-eq0.false (c.in_ok-n.ensures), c.in-Map.is) c.read_map.ensures

pub read_value-returns-in-Set : goal.read_value-returns-in-Set
read_value-returns-in-Set t c =
    rw (by_item _ _ _ _ c.if-levels-eq0.false (c.in_ok-n.ensures), c.in-Set.is) (c.repeat.ensures _ (λ p x e. e))

pub read_value-returns-in_default : goal.read_value-returns-in_default
read_value-returns-in_default t c =
    rw (by_item _ _ _ c.read_item-x.result c.if-levels-eq0.false c.read_item-x.ensures)
    (c.scalar-in_default.ensures ∙ no_container _ _ _ (λ n at e. c.in_default.not-Array n at (cc c.in_ok-n.was)) (λ n at e. c.in_default.not-Map n at (cc c.in_ok-n.was)) (λ n at e. c.in_default.not-Set n at (cc c.in_ok-n.was)))
