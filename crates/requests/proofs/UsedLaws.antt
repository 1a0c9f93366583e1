-- The number of used slots: it is never above the number of slots, and a slot that is put changes it by that slot alone.
-- Assumes nothing.
use Prim.Native.Nat.{ℕ, zero, suc, ◌+◌, ◌≤◌}
use mathlib.Core.Path.{◌≡◌, ap}
use mathlib.Core.Bool.{Bool, true, false, not}
use mathlib.Core.List.{List, [], ◌∷◌}
use native.Mathlib.Omega.{arith}
use lib.ListN.{length, get_or, set}
use Rattle.frame.specs.Records.{bit}
use Rattle.requests.specs.declared.Phase.TheVariants.{Free}
use Rattle.requests.specs.declared.Slot.{Slot}
use Rattle.requests.specs.Phases.{free_slot}
use Rattle.requests.specs.Slots.{in_phase, used_bit, used_count}

-- by whether the slot is free
pub used-is : (x : Slot) (t : Bool) → in_phase Free x ≡ t → used_bit x ≡ bit (not t)
unfolding used_bit
used-is x t e = ap (λ (c : Bool). bit (not c)) e

pub at_most_one : (x : Slot) → used_bit x ≤ 1
unfolding used_bit bit
at_most_one x = go (in_phase Free x)
  where
    go : (t : Bool) → bit (not t) ≤ 1
    go true = omega arith
    go false = omega arith

pub at-most-all : (xs : List Slot) → used_count xs ≤ length xs
unfolding used_count
at-most-all [] = omega arith
at-most-all (x ∷ xs) = omega (arith, at_most_one x, at-most-all xs)

-- what stands at the place before and after; past the end nothing is put
pub used-set : (xs : List Slot) (i : ℕ) (x : Slot) → used_count (set xs i x) + used_bit (get_or xs i free_slot) ≡ used_count xs + used_bit (get_or (set xs i x) i free_slot)
unfolding used_count
used-set [] i x = omega arith
used-set (y ∷ xs) zero x = omega arith
used-set (y ∷ xs) (suc i) x = omega (arith, used-set xs i x)
