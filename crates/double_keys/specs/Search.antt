-- How the search in a row of places goes: what the functions of rows.rt answer. No public promise cites these.
use Rattle.std.specs.Prelude.{ℕ, suc, ◌+◌, ◌*◌, ◌%◌, ◌≤◌, ◌<◌, ◌≡◌, ◌⊎◌, List, [], ◌∷◌, Bool, true, false, length, get_or}
use Rattle.std.specs.declared.cmp.Ordering.TheVariants.{Less}
use Rattle.keys.specs.Keys.{part, equal, twice}
use Rattle.keys.specs.Order.{compare}
use Rattle.double_keys.specs.Row.{kept}

-- a number below 2^32 made of a key's content, where h is made of the bytes before
unfoldable pub hash_from : ℕ → List ℕ → ℕ
hash_from h [] = h
hash_from h (b ∷ l) = hash_from ((h * 16777619 + b) % 4294967296) l

unfoldable pub hash : List ℕ → ℕ
hash l = hash_from 0 l

-- a row after v was put in at an index of its first k places
pub record Inserted (row row' : List ℕ) (k at v : ℕ) : Type 0 where
  pub long : length row' ≡ length row
  pub front : (t : ℕ) → t < at → get_or row' t 0 ≡ get_or row t 0
  pub here : get_or row' at 0 ≡ v
  pub back : (t : ℕ) → at ≤ t → t < k → get_or row' (suc t) 0 ≡ get_or row t 0
  pub beyond : (t : ℕ) → k < t → get_or row' t 0 ≡ get_or row t 0

-- the first m places of a row are indexes below n, rising
pub record Indexes (n : ℕ) (row : List ℕ) (m : ℕ) : Type 0 where
  pub room : m ≤ length row
  pub places : (t : ℕ) → t < m → get_or row t 0 < n
  pub rising : (t u : ℕ) → t < u → u < m → get_or row t 0 < get_or row u 0

-- a row has the indexes below n, each in its place
pub record Counts (n : ℕ) (row row' : List ℕ) : Type 0 where
  pub long : length row' ≡ length row
  pub each : (t : ℕ) → t < n → get_or row' t 0 ≡ t

-- an index of the first m places of a row at which v stands
pub record Listed (row : List ℕ) (m v : ℕ) : Type 0 where
  pub index : ℕ
  pub below : index < m
  pub here : get_or row index 0 ≡ v

-- what listing the indexes below n leaves: each of them is in the row, but those whose mark, in the row before, is counted below 2
pub record Lists (n : ℕ) (counts row row' : List ℕ) (m : ℕ) : Type 0 where
  pub few : m ≤ n
  pub long : length row' ≡ length row
  pub indexes : Indexes n row' m
  pub all : (i : ℕ) → i < n → (get_or counts (get_or row i 0) 0 < 2) ⊎ Listed row' m i

module _ (s starts stops : List ℕ) where
  -- the key at index i of a row of places
  unfoldable pub key_of : ℕ → List ℕ
  key_of i = part s (get_or starts i 0) (get_or stops i 0)

  -- n places, each of which starts before it stops, in s
  abbrev pub Places : ℕ → Type 0
  Places n = (n ≤ length starts) × (n ≤ length stops) × ((t : ℕ) → t < n → (get_or starts t 0 ≤ get_or stops t 0) × (get_or stops t 0 ≤ length s))

  -- a row of marks, one for each of n keys: a key whose mark is counted below 2 is equal to no other
  pub record Marked (n : ℕ) (counts row : List ℕ) : Type 0 where
    pub marks : (t : ℕ) → t < n → get_or row t 0 < length counts
    pub alone : (t u : ℕ) → t < n → u < n → (t ≡ u → ⊥) → get_or counts (get_or row t 0) 0 < 2 → equal (key_of t) (key_of u) ≡ false

  -- the keys whose indexes are the first m of a row: none is equal to another, and row' has them in order, the greatest first
  pub record Ordered (row row' : List ℕ) (m : ℕ) : Type 0 where
    pub apart : (t u : ℕ) → t < u → u < m → equal (key_of (get_or row t 0)) (key_of (get_or row u 0)) ≡ false
    pub falls : (t u : ℕ) → t < u → u < m → compare (key_of (get_or row' u 0)) (key_of (get_or row' t 0)) ≡ Less
    pub all : (x : List ℕ) → ((t : ℕ) → t < m → equal x (key_of (get_or row' t 0)) ≡ false) → (t : ℕ) → t < m → equal x (key_of (get_or row t 0)) ≡ false

  -- what the search among m of n keys answers, r, and leaves
  pub record Searched (n : ℕ) (row row' : List ℕ) (m : ℕ) (r : Bool) : Type 0 where
    pub long : length row' ≡ length row
    pub places : (t : ℕ) → t < m → get_or row' t 0 < n
    pub double : r ≡ true → twice (kept s starts stops n) ≡ true
    pub single : r ≡ false → Ordered row row' m
