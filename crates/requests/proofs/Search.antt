-- The library's searches of a list, in the words of `Slots.antt`.
-- Assumes nothing.
use Rattle.std.proofs.Common.{◌≡◌, ℕ, suc, ◌+◌, Bool, true, false, cond, not, ◌||◌, List, [], ◌∷◌, ◌<◌, ◌≤◌, length, refl, ap, arith}
use Rattle.std.specs.Prelude.{Some, None}
use lib.Dec.{ltb}
use borrow.Author.Tests.{ltb-true, ltb-false, lt-ltb}
use Rattle.std.specs.List.{position, position_or_len, list_any}
use Rattle.requests.specs.declared.Slot.{Slot}
use Rattle.requests.specs.Slots.{place_at, first_slot, is_id, id_in}

-- one slot more in front
more : (t : Bool) (m n : ℕ) → m ≡ n → cond (not t) (1 + m) 0 ≡ cond t 0 (suc n)
more true m n e = refl
more false m n e = omega arith

first-is : (p : Slot → Bool) (xs : List Slot) → position_or_len p xs ≡ first_slot p xs
unfolding first_slot
first-is p [] = refl
first-is p (x ∷ xs) = more (p x) _ _ (first-is p xs)

-- among eight slots
pub place-is : (p : Slot → Bool) (xs : List Slot) → length xs ≡ 8 → position p xs ≡ place_at (first_slot p xs)
place-is p xs n = rw (n, first-is p xs)

pub any-is : (id : ℕ) (xs : List Slot) → list_any (is_id id) xs ≡ id_in id xs
unfolding id_in
any-is id [] = refl
any-is id (x ∷ xs) = ap (λ t. is_id id x || t) (any-is id xs)

-- ---- a place that was found, and none

pub at-some : (n i : ℕ) → place_at n ≡ Some i → (i ≡ n) × (n < 8)
at-some n i e = go (ltb n 8) refl e
  where
    go : (t : Bool) → ltb n 8 ≡ t → cond t (Some n) None ≡ Some i → (i ≡ n) × (n < 8)
    go true q e = (cc, ltb-true n 8 q)
    go false q e = absurd (cc)

pub at-none : (n : ℕ) → place_at n ≡ None → 8 ≤ n
at-none n e = go (ltb n 8) refl e
  where
    go : (t : Bool) → ltb n 8 ≡ t → cond t (Some n) None ≡ None → 8 ≤ n
    go true q e = absurd (cc)
    go false q e = ltb-false n 8 q

pub at-place : (n : ℕ) → n < 8 → place_at n ≡ Some n
at-place n h = rw (lt-ltb n 8 h)
