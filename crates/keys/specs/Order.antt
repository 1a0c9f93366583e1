-- Two keys compared (E4): by their lengths first and, only if these are equal, by their bytes.
-- These are definitions: they assume nothing.
use Rattle.std.specs.Prelude.{ℕ, ◌≡◌, List, [], ◌∷◌, Bool, cond, ltb, length}
use Rattle.std.specs.declared.cmp.Ordering.{Ordering}
use Rattle.std.specs.declared.cmp.Ordering.TheVariants.{Less, Equal, Greater}
use Rattle.std.specs.Ordering.{is_eq}
use Rattle.keys.specs.Keys.{equal}

-- two numbers, the lesser before the greater; between equal ones d decides
abbrev pub by_number : ℕ → ℕ → Ordering → Ordering
by_number m n d = cond (ltb m n) Less (cond (ltb n m) Greater d)

-- of two keys of one length, the first byte that differs decides
unfoldable pub by_bytes : List ℕ → List ℕ → Ordering
by_bytes [] b = Equal
by_bytes (x ∷ a) [] = Equal
by_bytes (x ∷ a) (y ∷ b) = by_number x y (by_bytes a b)

-- of any two keys, the lengths decide, and the bytes only between keys of one length
unfoldable pub compare : List ℕ → List ℕ → Ordering
compare a b = by_number (length a) (length b) (by_bytes a b)

-- whether two keys are the same, by the lengths first
unfoldable pub same : List ℕ → List ℕ → Bool
same a b = is_eq (compare a b)

-- the law of it: that is equality by content
abbrev pub SameIsEqual : Type 0
SameIsEqual = (a b : List ℕ) → same a b ≡ equal a b
