-- Steps of the code: the length of the record in front of some bytes, that record taken off them, and an old record with a new length field.
-- These are definitions: they assume nothing.
use Rattle.std.specs.Prelude.{◌≡◌, ℕ, ◌-◌, true, false, cond, List, ◌++◌, length, take, drop, Option, Some, None}
use Rattle.std.specs.Borrow.{Bor}
use Rattle.fields.specs.Fields.{number}
use Rattle.logs.specs.Logs.{size, is_there}

unfoldable pub front_length : ℕ → List ℕ → Option ℕ
front_length w s = cond (is_there w s) (Some (size w s)) None

-- these are the bytes of the record in front, if it is all there
abbrev pub IsFront : ℕ → List ℕ → Option (Bor (List ℕ)) → Type 0
IsFront w s (Some r) = (is_there w s ≡ true) × (r.now ≡ take (size w s) s)
IsFront w s None = is_there w s ≡ false

-- the record in front, if there is one, is taken off, and this is left
abbrev pub front_taken : ℕ → List ℕ → Option (Bor (List ℕ)) → List ℕ → Type 0
front_taken w s (Some r) t = (is_there w s ≡ true) × (r.now ≡ take (size w s) s) × (t ≡ drop (size w s) s)
front_taken w s None t = (is_there w s ≡ false) × (t ≡ s)

unfoldable pub widened : List ℕ → List ℕ
widened r = (number 4).put (length r - 4) ++ drop 2 r
