-- `requests::slots_fit` meets its contract: the first slot that does not fit, or is not apart, refuses them all; each other one is counted.
use Rattle.std.proofs.Common.{◌≡◌, ℕ, ◌+◌, ◌≤◌, Bool, true, false, ◌&&◌, List, [], ◌∷◌, length, refl, sym, ◌∙◌, ap, arith, rules}
use lib.Dec.{eqb}
use Rattle.requests.specs.declared.Slot.{Slot}
use Rattle.requests.specs.Slots.{slot_fits, apart, slots_fit, used_bit, used_count}
use Rattle.requests.proofs.UsedLaws.{at_most_one}
use Rattle.requests.proofs.slots_fit.Goals as goal
use Rattle.requests.proofs.slots_fit.Goals.{then-not-fits-via-then-not-fits, then-not-fits-via-else-not-fits+then-not-is_apart}

-- the slots that are left, by the first of them
first-is : (rest : List Slot) (x : Slot) (xs : List Slot) (a b : Bool) → rest ≡ x ∷ xs → slot_fits x ≡ a → apart x xs ≡ b → slots_fit rest ≡ (a && b && slots_fit xs)
unfolding slots_fit
first-is rest x xs a b e f g = rw (e, f, g)

used-is : (rest : List Slot) (x : Slot) (xs : List Slot) → rest ≡ x ∷ xs → used_count rest ≡ used_bit x + used_count xs
unfolding used_count
used-is rest x xs e = rw e

-- none is left
none-fit : (rest : List Slot) → length rest ≡ 0 → slots_fit rest ≡ true
unfolding slots_fit
none-fit [] e = refl
none-fit (x ∷ xs) e = absurd (omega arith)

none-used : (rest : List Slot) → length rest ≡ 0 → used_count rest ≡ 0
unfolding used_count
none-used [] e = refl
none-used (x ∷ xs) e = absurd (omega arith)

-- slots that do not fit are refused, whatever the count
unfit : (slots : List Slot) (count : ℕ) → slots_fit slots ≡ false → false ≡ (slots_fit slots && eqb count (used_count slots))
unfit slots count e = rw e

-- all of them fit, and the count is of all
all_fit : (slots : List Slot) (count used : ℕ) → slots_fit slots ≡ true → used ≡ used_count slots → eqb count used ≡ (slots_fit slots && eqb count (used_count slots))
all_fit slots count used e f = rw (e, f)

pub returns-then-not-fits : goal.returns-then-not-fits
returns-then-not-fits c =
    let e : c.loop-s.rest.now ≡ c.in-Some.s.now ∷ c.in-Some.later.now = search rules in
    let h : slots_fit c.loop-s.rest.now ≡ false =
    elim c.then-not-fits.branch [
      | then-not-fits-via-then-not-fits w ↦ first-is _ _ _ _ _ e (sym c.fits.ensures ∙ w.if-not-fits.true) refl
      | then-not-fits-via-else-not-fits+then-not-is_apart w ↦ first-is _ _ _ _ _ e (sym c.fits.ensures ∙ w.if-not-fits.false) (sym w.is_apart.ensures ∙ w.if-not-is_apart.true)
    ] in
    unfit c.args.slots.now _ (c.loop-s.invariant.1 ∙ h)

pub overflow_add-used : goal.overflow_add-used
overflow_add-used c =
    let one : c.used_bit-used.result ≤ 1 = rw c.used_bit-used.ensures (at_most_one c.in-Some.s.now) in
    let e : c.loop-s.rest.now ≡ c.in-Some.s.now ∷ c.in-Some.later.now = search rules in
    record { fits = omega (arith, ap length e) }

pub loop-s-preserved : goal.loop-s-preserved
loop-s-preserved c =
    let e : c.loop-s.rest.now ≡ c.in-Some.s.now ∷ c.in-Some.later.now = search rules in
    let one : c.used_bit-used.result ≤ 1 = rw c.used_bit-used.ensures (at_most_one c.in-Some.s.now) in (
      omega (arith, ap length e),
      c.loop-s.invariant.1 ∙ first-is _ _ _ true true e (sym c.fits.ensures ∙ c.if-not-fits.false) (sym c.is_apart.ensures ∙ c.if-not-is_apart.false),
      omega (arith, used-is _ _ _ e, c.used_bit-used.ensures),
    )

pub returns : goal.returns
returns c =
    let none : length c.loop-s.rest.now ≡ 0 = search rules in
    all_fit c.args.slots.now _ _ (c.loop-s.invariant.1 ∙ none-fit _ none) (omega (arith, none-used _ none))
