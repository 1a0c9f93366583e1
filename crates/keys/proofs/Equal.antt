-- Keys equal by content are equal, and a key is equal to itself.
-- Assumes nothing.
use mathlib.Core.Path.{◌≡◌, refl, sym, ◌∙◌}
use mathlib.Core.Bool.{Bool, true, false, false≢true, and-eq-true_iff}
use mathlib.Core.List.{List, [], ◌∷◌}
use Prim.Native.Nat.{ℕ}
use lib.Dec.{eqb}
use borrow.Author.Tests.{eq-eqb, eqb-true}
use Rattle.keys.specs.Keys.{equal}

-- keys equal by content are equal
pub equal-true : (a b : List ℕ) → equal a b ≡ true → a ≡ b
unfolding equal
equal-true [] [] h = refl
equal-true [] (y ∷ b) h = absurd (false≢true h)
equal-true (x ∷ a) [] h = absurd (false≢true h)
equal-true (x ∷ a) (y ∷ b) h =
    let k = (and-eq-true_iff (eqb x y) (equal a b)).0 h in
    rw (eqb-true x y k.0, equal-true a b k.1)

-- a key is equal to itself, so `equal` tells just whether two keys are equal
pub equal-refl : (a : List ℕ) → equal a a ≡ true
unfolding equal
equal-refl [] = refl
equal-refl (x ∷ a) = rw (eq-eqb x x refl) (equal-refl a)

-- which of two keys comes first does not matter
pub equal-sym : (a b : List ℕ) → equal a b ≡ equal b a
equal-sym a b = by (equal a b) refl (equal b a) refl
  where
    by : (t : Bool) → equal a b ≡ t → (u : Bool) → equal b a ≡ u → t ≡ u
    by true e true f = refl
    by false e false f = refl
    by true e false f = absurd (false≢true (sym f ∙ rw (equal-true a b e) (equal-refl b)))
    by false e true f = absurd (false≢true (sym e ∙ rw (equal-true b a f) (equal-refl a)))
