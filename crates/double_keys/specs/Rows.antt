-- A row of places, and its keys. No public promise cites this.
use Rattle.std.specs.Prelude.{ℕ, ◌≡◌, List, true, false, Option, None, Some}
use Rattle.double_keys.specs.Row.{kept, sound}
use Rattle.double_keys.specs.declared.rows.Row.{Row}

abbrev pub keys_in : Row → List (List ℕ)
keys_in r = kept r.s.now r.starts.now r.stops.now r.n

-- the row of these k places, if it is sound
abbrev pub IsRow : List ℕ → List ℕ → List ℕ → ℕ → Option Row → Type 0
IsRow s starts stops k (Some r) = (sound s starts stops k ≡ true) × (r.s.now ≡ s) × (r.starts.now ≡ starts) × (r.stops.now ≡ stops) × (r.n ≡ k)
IsRow s starts stops k None = sound s starts stops k ≡ false
