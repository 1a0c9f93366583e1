-- Keys of a map: equal by content, and standing twice. A key is the list of its bytes.
-- These are definitions: they assume nothing.
use Rattle.std.specs.Prelude.{ℕ, ◌-◌, List, [], ◌∷◌, Bool, true, false, ◌&&◌, ◌||◌, take, drop, eqb}

-- the bytes from start up to stop; what lies past the end is not there
unfoldable pub part : List ℕ → ℕ → ℕ → List ℕ
part s start stop = take (stop - start) (drop start s)

-- equal by content
unfoldable pub equal : List ℕ → List ℕ → Bool
equal [] [] = true
equal [] (b ∷ m) = false
equal (a ∷ l) [] = false
equal (a ∷ l) (b ∷ m) = eqb a b && equal l m

-- whether a key stands among others
unfoldable pub among : List (List ℕ) → List ℕ → Bool
among [] key = false
among (k ∷ ks) key = equal key k || among ks key

-- whether a key stands twice
unfoldable pub twice : List (List ℕ) → Bool
twice [] = false
twice (k ∷ ks) = among ks k || twice ks

-- the keys whose contents start and stop at these places
unfoldable pub keys_at : List ℕ → List ℕ → List ℕ → List (List ℕ)
keys_at s [] stops = []
keys_at s (a ∷ starts) [] = []
keys_at s (a ∷ starts) (b ∷ stops) = part s a b ∷ keys_at s starts stops
