-- Laws of the slots: what a search finds, and that a slot which is put keeps rule 3. Assumes nothing.
use Prim.Native.Nat.{ℕ, zero, suc, ◌<◌}
use mathlib.Core.Path.{◌≡◌, refl}
use mathlib.Core.Bool.{Bool, true, false, ◌&&◌, ◌||◌, not, cond, true≢false, false≢true}
use mathlib.Core.List.{List, [], ◌∷◌}
use native.Mathlib.Omega.{arith}
use lib.ListN.{length, get_or, set}
use lib.Dec.{eqb}
use borrow.Author.Tests.{eqb-true, eq-eqb}
use Rattle.requests.specs.declared.Phase.TheVariants.{Free}
use Rattle.requests.specs.declared.Slot.{Slot}
use Rattle.requests.specs.Slots.{in_phase, is_id, first_slot, slot_fits, id_in, apart, slots_fit}
use Rattle.requests.specs.Phases.{free_slot, is_phase, code}
use Rattle.rules.proofs.Bools.{and_l, and_r, and_i, or_l, or_r, not_no, no_is, fails, clash}

-- the search finds a slot that passes the test, where the list has one
pub found : (id : ℕ) (xs : List Slot) → id_in id xs ≡ true → is_id id (get_or xs (first_slot (is_id id) xs) free_slot) ≡ true
unfolding id_in first_slot
found id [] e = absurd (false≢true e)
found id (x ∷ xs) e = go (is_id id x) refl (found id xs) e
  where
    go : (c : Bool) → is_id id x ≡ c → (id_in id xs ≡ true → is_id id (get_or xs (first_slot (is_id id) xs) free_slot) ≡ true) → (c || id_in id xs) ≡ true
        → is_id id (get_or (x ∷ xs) (cond c 0 (suc (first_slot (is_id id) xs))) free_slot) ≡ true
    go true h ih q = h
    go false h ih q = ih q

-- a used slot stands in the list
pub inside : (xs : List Slot) (i : ℕ) → in_phase Free (get_or xs i free_slot) ≡ false → i < length xs
unfolding is_phase code
inside [] i e = absurd (true≢false e)
inside (x ∷ xs) zero e = omega arith
inside (x ∷ xs) (suc i) e = omega (arith, inside xs i e)

pub listed : (id : ℕ) (xs : List Slot) (i : ℕ) → is_id id (get_or xs i free_slot) ≡ true → id_in id xs ≡ true
unfolding id_in is_id is_phase code
listed id [] i e = absurd (false≢true e)
listed id (x ∷ xs) zero e = or_l (is_id id x) (id_in id xs) e
listed id (x ∷ xs) (suc i) e = or_r (is_id id x) (id_in id xs) (listed id xs i e)

-- each slot of a list that fits, fits
pub each_fits : (xs : List Slot) (i : ℕ) → slots_fit xs ≡ true → slot_fits (get_or xs i free_slot) ≡ true
unfolding slots_fit slot_fits
each_fits [] i e = refl
each_fits (x ∷ xs) zero e = and_l (slot_fits x) (apart x xs) (and_l (slot_fits x && apart x xs) (slots_fit xs) e)
each_fits (x ∷ xs) (suc i) e = each_fits xs i (and_r (slot_fits x && apart x xs) (slots_fit xs) e)

pub tail_fits : (x : Slot) (xs : List Slot) → slots_fit (x ∷ xs) ≡ true → slots_fit xs ≡ true
unfolding slots_fit
tail_fits x xs e = and_r (slot_fits x && apart x xs) (slots_fit xs) e

pub head_apart : (x : Slot) (xs : List Slot) → slots_fit (x ∷ xs) ≡ true → apart x xs ≡ true
unfolding slots_fit
head_apart x xs e = and_r (slot_fits x) (apart x xs) (and_l (slot_fits x && apart x xs) (slots_fit xs) e)

pub in_tail : (z : ℕ) (x : Slot) (xs : List Slot) → id_in z xs ≡ true → id_in z (x ∷ xs) ≡ true
unfolding id_in
in_tail z x xs e = or_r (is_id z x) (id_in z xs) e

pub in_head : (z : ℕ) (x : Slot) (xs : List Slot) → is_id z x ≡ true → id_in z (x ∷ xs) ≡ true
unfolding id_in
in_head z x xs e = or_l (is_id z x) (id_in z xs) e

-- a slot that is put: what the list then has, it had, or it is the new one
either : (z : ℕ) (xs : List Slot) (i : ℕ) (y : Slot) → id_in z (set xs i y) ≡ true → is_id z y ≡ false → id_in z xs ≡ true
unfolding id_in
either z [] i y e n = e
either z (x ∷ xs) zero y e n = or_r (is_id z x) (id_in z xs) (go (is_id z y) n e)
  where
    go : (c : Bool) → c ≡ false → (c || id_in z xs) ≡ true → id_in z xs ≡ true
    go true p q = clash refl p
    go false p q = q
either z (x ∷ xs) (suc i) y e n = go (is_id z x) (either z xs i y) e
  where
    go : (c : Bool) → (id_in z (set xs i y) ≡ true → is_id z y ≡ false → id_in z xs ≡ true) → (c || id_in z (set xs i y)) ≡ true → (c || id_in z xs) ≡ true
    go true ih q = refl
    go false ih q = ih q n

apart-i : (x : Slot) (xs : List Slot) → (in_phase Free x ≡ false → id_in x.id xs ≡ true → ⊥) → apart x xs ≡ true
unfolding apart
apart-i x xs h = go (in_phase Free x) refl
  where
    go : (c : Bool) → in_phase Free x ≡ c → (c || not (id_in x.id xs)) ≡ true
    go true e = refl
    go false e = no_is (id_in x.id xs) (fails (id_in x.id xs) (h e))

pub apart_e : (x : Slot) (xs : List Slot) → apart x xs ≡ true → in_phase Free x ≡ false → id_in x.id xs ≡ true → ⊥
unfolding apart
apart_e x xs e u k = go (in_phase Free x) u e
  where
    go : (c : Bool) → c ≡ false → (c || not (id_in x.id xs)) ≡ true → ⊥
    go true p q = clash refl p
    go false p q = clash k (not_no (id_in x.id xs) q)

-- what two ids being one comes to
pub same_id : (z : ℕ) (y : Slot) → is_id z y ≡ true → (in_phase Free y ≡ false) × (y.id ≡ z)
unfolding is_id
same_id z y e = (not_no (in_phase Free y) (and_l (not (in_phase Free y)) (eqb y.id z) e), eqb-true y.id z (and_r (not (in_phase Free y)) (eqb y.id z) e))

pub of_id : (x : Slot) → in_phase Free x ≡ false → is_id x.id x ≡ true
unfolding is_id
of_id x e = and_i (not (in_phase Free x)) (eqb x.id x.id) (no_is (in_phase Free x) e) (eq-eqb x.id x.id refl)

-- A slot is put whose id, if the list has it, is the id of the slot that it takes the place of: the list still fits.
pub set-fits : (xs : List Slot) (i : ℕ) (y : Slot) → slots_fit xs ≡ true → slot_fits y ≡ true
    → (in_phase Free y ≡ false → id_in y.id xs ≡ true → is_id y.id (get_or xs i free_slot) ≡ true)
    → slots_fit (set xs i y) ≡ true
unfolding slots_fit
set-fits [] i y e fy h = refl
set-fits (x ∷ xs) zero y e fy h =
    and_i (slot_fits y && apart y xs) (slots_fit xs) (and_i (slot_fits y) (apart y xs) fy (apart-i y xs new)) (tail_fits x xs e)
  where
    new : in_phase Free y ≡ false → id_in y.id xs ≡ true → ⊥
    new u k =
        let (used, eq) = same_id y.id x (h u (in_tail y.id x xs k)) in
        apart_e x xs (head_apart x xs e) used (rw eq k)
set-fits (x ∷ xs) (suc i) y e fy h =
    and_i (slot_fits x && apart x (set xs i y)) (slots_fit (set xs i y))
    (and_i (slot_fits x) (apart x (set xs i y)) (each_fits (x ∷ xs) 0 e) (apart-i x (set xs i y) new))
    (set-fits xs i y (tail_fits x xs e) fy (λ u k. h u (in_tail y.id x xs k)))
  where
    new : in_phase Free x ≡ false → id_in x.id (set xs i y) ≡ true → ⊥
    new u k = go (is_id x.id y) refl
      where
        go : (c : Bool) → is_id x.id y ≡ c → ⊥
        go false n = apart_e x xs (head_apart x xs e) u (either x.id xs i y k n)
        go true n =
            let (used, eq) = same_id x.id y n in
            let there : is_id y.id (get_or xs i free_slot) ≡ true = h used (in_head y.id x xs (rw eq (of_id x u))) in
            apart_e x xs (head_apart x xs e) u (rw eq at (listed y.id xs i there))

pub not-free-id : (id : ℕ) → is_id id free_slot ≡ false
unfolding is_id is_phase code
not-free-id id = refl

-- where no slot has the id, the search ends at a free slot
pub none-there : (id : ℕ) (xs : List Slot) → id_in id xs ≡ false → get_or xs (first_slot (is_id id) xs) free_slot ≡ free_slot
unfolding id_in first_slot
none-there id [] e = refl
none-there id (x ∷ xs) e = go (is_id id x) e (none-there id xs)
  where
    go : (c : Bool) → (c || id_in id xs) ≡ false → (id_in id xs ≡ false → get_or xs (first_slot (is_id id) xs) free_slot ≡ free_slot)
        → get_or (x ∷ xs) (cond c 0 (suc (first_slot (is_id id) xs))) free_slot ≡ free_slot
    go true h ih = clash refl h
    go false h ih = ih h

-- a slot that is freed is not found again
pub freed_slot : (id : ℕ) (xs : List Slot) → slots_fit xs ≡ true
    → get_or (set xs (first_slot (is_id id) xs) free_slot) (first_slot (is_id id) (set xs (first_slot (is_id id) xs) free_slot)) free_slot ≡ free_slot
unfolding first_slot
freed_slot id [] e = refl
freed_slot id (x ∷ xs) e = go (is_id id x) refl (freed_slot id xs (tail_fits x xs e))
  where
    k : ℕ
    k = first_slot (is_id id) xs

    free-is-not : is_id id free_slot ≡ false
    free-is-not = not-free-id id

    go : (c : Bool) → is_id id x ≡ c → get_or (set xs k free_slot) (first_slot (is_id id) (set xs k free_slot)) free_slot ≡ free_slot
        → get_or (set (x ∷ xs) (cond c 0 (suc k)) free_slot) (first_slot (is_id id) (set (x ∷ xs) (cond c 0 (suc k)) free_slot)) free_slot ≡ free_slot
    go true h ih =
        rw free-is-not (none-there id xs (fails (id_in id xs) (λ y. apart_e x xs (head_apart x xs e) (same_id id x h).0 (rw (same_id id x h).1 y))))
    go false h ih = rw h ih
