-- Where a slot is found after another slot is written. Assumes nothing.
use Prim.Native.Nat.{ℕ, zero, suc, ◌≤◌, ◌<◌}
use native.Mathlib.Nat.{le_of_suc-le-suc}
use mathlib.Core.Path.{◌≡◌, refl, ap}
use mathlib.Core.Bool.{Bool, true, false, cond}
use mathlib.Core.List.{List, [], ◌∷◌}
use native.Mathlib.Omega.{arith}
use lib.ListN.{length, get_or, set}
use Rattle.requests.specs.declared.Slot.{Slot}
use Rattle.requests.specs.Slots.{first_slot}
use Rattle.requests.specs.Phases.{free_slot}

module _ (test : Slot → Bool) where
  pub hit : (xs : List Slot) → first_slot test xs < length xs → test (get_or xs (first_slot test xs) free_slot) ≡ true
  unfolding first_slot
  hit [] h = absurd (none h)
    where
      none : 0 < 0 → ⊥
      none l = omega arith
  hit (x ∷ xs) h = go (test x) refl (hit xs) h
    where
      go : (c : Bool) → test x ≡ c → (first_slot test xs < length xs → test (get_or xs (first_slot test xs) free_slot) ≡ true)
          → cond c 0 (suc (first_slot test xs)) < suc (length xs) → test (get_or (x ∷ xs) (cond c 0 (suc (first_slot test xs))) free_slot) ≡ true
      go true e ih l = e
      go false e ih l = ih (le_of_suc-le-suc l)

  -- a slot that fails the test is put for one that fails it: the search finds what it found
  pub missed : (xs : List Slot) (i : ℕ) (y : Slot) → test y ≡ false → test (get_or xs i free_slot) ≡ false
      → (first_slot test (set xs i y) ≡ first_slot test xs) × (get_or (set xs i y) (first_slot test xs) free_slot ≡ get_or xs (first_slot test xs) free_slot)
  unfolding first_slot
  missed [] i y a b = (refl, refl)
  missed (x ∷ xs) zero y a b = rw (a, b) (refl, refl)
  missed (x ∷ xs) (suc i) y a b = go (test x) (missed xs i y a b)
    where
      go : (c : Bool) → (first_slot test (set xs i y) ≡ first_slot test xs) × (get_or (set xs i y) (first_slot test xs) free_slot ≡ get_or xs (first_slot test xs) free_slot)
          → (cond c 0 (suc (first_slot test (set xs i y))) ≡ cond c 0 (suc (first_slot test xs)))
          × (get_or (x ∷ set xs i y) (cond c 0 (suc (first_slot test xs))) free_slot ≡ get_or (x ∷ xs) (cond c 0 (suc (first_slot test xs))) free_slot)
      go true ih = (refl, refl)
      go false ih = (ap suc ih.0, ih.1)

  -- a slot that passes the test is put no later than where one was found
  pub placed_at : (xs : List Slot) (i : ℕ) (y : Slot) → i ≤ first_slot test xs → i < length xs → test y ≡ true
      → (first_slot test (set xs i y) ≡ i) × (get_or (set xs i y) i free_slot ≡ y)
  unfolding first_slot
  placed_at [] i y h l t = absurd (none l)
    where
      none : i < 0 → ⊥
      none k = omega arith
  placed_at (x ∷ xs) zero y h l t = rw t (refl, refl)
  placed_at (x ∷ xs) (suc i) y h l t = go (test x) (λ k. placed_at xs i y k (le_of_suc-le-suc l) t) h
    where
      go : (c : Bool) → (i ≤ first_slot test xs → (first_slot test (set xs i y) ≡ i) × (get_or (set xs i y) i free_slot ≡ y)) → suc i ≤ cond c 0 (suc (first_slot test xs))
          → (cond c 0 (suc (first_slot test (set xs i y))) ≡ suc i) × (get_or (set xs i y) i free_slot ≡ y)
      go true ih k = absurd (none k)
        where
          none : suc i ≤ 0 → ⊥
          none z = omega arith
      go false ih k = let r = ih (le_of_suc-le-suc k) in (ap suc r.0, r.1)
