-- A row of places: where keys' contents start and stop. `keep` puts one more key there.
-- These are definitions: they assume nothing.
use Rattle.std.specs.Prelude.{ℕ, Option, None, Some, zero, suc, ◌+◌, ◌≤◌, ◌≡◌, List, Bool, true, false, cond, ◌&&◌, ltb, leb, length, take, set, get_or}
use Rattle.keys.specs.Keys.{keys_at, twice}
use Rattle.entries.specs.declared.Entry.{Entry}
use Rattle.entries.specs.Entries.{all, if_read, is_keyed, contents}

-- the first k keys of a row
unfoldable pub kept : List ℕ → List ℕ → List ℕ → ℕ → List (List ℕ)
kept s starts stops k = keys_at s (take k starts) (take k stops)

-- whether each of n places starts before it stops, within so many bytes
unfoldable pub within : List ℕ → List ℕ → ℕ → ℕ → Bool
within starts stops zero size = true
within starts stops (suc n) size = within starts stops n size && leb (get_or starts n 0) (get_or stops n 0) && leb (get_or stops n 0) size

-- whether a row has k places in s, and no more than the search has room for
unfoldable pub sound : List ℕ → List ℕ → List ℕ → ℕ → Bool
sound s starts stops k = leb k (length starts) && leb k (length stops) && leb k 1024 && within starts stops k (length s)

-- whether a key stands twice: among the first k of a row or, where the row is not sound, in the entries es
unfoldable pub row_double : List ℕ → List Entry → List ℕ → List ℕ → ℕ → Bool
row_double s es starts stops k = cond (sound s starts stops k) (twice (kept s starts stops k)) (twice (contents s es))

-- whether a row of k places has room for one more, and the place fits in 16 bits
abbrev pub room_for : List ℕ → List ℕ → ℕ → ℕ → ℕ → Bool
room_for starts stops k start stop = ltb k (length starts) && ltb k (length stops) && leb start 65535 && leb stop 65535

-- how many places the row has after what was read: one more, or a number past its end; as many as before if it is no entry, or its key is no
-- byte string
unfoldable pub kept_count : List ℕ → List ℕ → ℕ → Option Entry → ℕ
kept_count starts stops k e = if_read e (λ start stop next. cond (room_for starts stops k start stop) (k + 1) (length starts + 1)) k

-- the row's starts and its stops after what was read
unfoldable pub kept_starts : List ℕ → List ℕ → ℕ → Option Entry → List ℕ
kept_starts starts stops k e = if_read e (λ start stop next. cond (room_for starts stops k start stop) (set starts k start) starts) starts

unfoldable pub kept_stops : List ℕ → List ℕ → ℕ → Option Entry → List ℕ
kept_stops starts stops k e = if_read e (λ start stop next. cond (room_for starts stops k start stop) (set stops k stop) stops) stops

-- what `keep` answers, r, and leaves
pub record Keeps (starts stops starts' stops' : List ℕ) (k : ℕ) (e : Option Entry) (r : ℕ) : Type 0 where
  pub count : r ≡ kept_count starts stops k e
  pub starts_after : starts' ≡ kept_starts starts stops k e
  pub stops_after : stops' ≡ kept_stops starts stops k e

-- What a row of k places is for entries with byte string keys: if k is not past its end, their keys.
pub record Holds (s : List ℕ) (es : List Entry) (starts stops : List ℕ) (k : ℕ) : Type 0 where
  pub strings : all is_keyed es ≡ true
  pub within : k ≤ length starts → k ≤ length stops
  pub same : k ≤ length starts → contents s es ≡ kept s starts stops k

-- a row for all of them, or none where a key is no byte string
abbrev pub KeptAll : List ℕ → List Entry → List ℕ → List ℕ → Option ℕ → Type 0
KeptAll s es starts stops (Some k) = Holds s es starts stops k
KeptAll s es starts stops None = all is_keyed es ≡ false

-- a row that has the keys of the entries, where k is not past its end, answers for them: so the search in the row and the search in the
-- entries give one answer
abbrev pub RowAnswers : Type 0
RowAnswers =
    (s : List ℕ) (es : List Entry) (starts stops : List ℕ) (k : ℕ) → (k ≤ length starts → contents s es ≡ kept s starts stops k)
    → row_double s es starts stops k ≡ twice (contents s es)
