-- A stored log, read as records, over the width w of a record's length field: the body's length (w bytes, little-endian, body only), two kind
-- bytes, which may be any, and the body. Logs from before E7 have width 2, those since have width 4.
-- These are definitions: they assume nothing.
use Rattle.std.specs.Prelude.{ℕ, zero, suc, ◌+◌, Bool, cond, List, [], ◌∷◌, ◌++◌, length, get_or, take, drop, leb, eqb}
use Rattle.fields.specs.Fields.{number}

-- a record of a log: its kind bytes and its body
pub record Stored : Type 0 where
  pub low : ℕ
  pub high : ℕ
  pub body : List ℕ

-- ---- writing: the bytes of a record, and of records in order

unfoldable pub stored_bytes : ℕ → Stored → List ℕ
stored_bytes w r = (number w).put (length r.body) ++ r.low ∷ r.high ∷ r.body

unfoldable pub log_of : ℕ → List Stored → List ℕ
log_of w [] = []
log_of w (r ∷ rs) = stored_bytes w r ++ log_of w rs

-- ---- reading: the record in front of some bytes

-- the body's length that it claims, its length in all, whether it is all there, and what it holds
unfoldable pub claimed : ℕ → List ℕ → ℕ
claimed w s = (number w).get s

abbrev pub size : ℕ → List ℕ → ℕ
size w s = w + 2 + claimed w s

unfoldable pub is_there : ℕ → List ℕ → Bool
is_there w s = leb (size w s) (length s)

unfoldable pub first_of : ℕ → List ℕ → Stored
first_of w s = record { low = get_or s w 0; high = get_or s (w + 1) 0; body = take (claimed w s) (drop (w + 2) s) }

-- ---- the records in order, up to the end or to one that is not all there

-- behind some bytes that are passed over
unfoldable pub records_from : ℕ → ℕ → List ℕ → List Stored
records_from w skip [] = []
records_from w (suc skip) (b ∷ s) = records_from w skip s
records_from w zero (b ∷ s) = cond (is_there w (b ∷ s)) (first_of w (b ∷ s) ∷ records_from w (w + 1 + claimed w (b ∷ s)) s) []

abbrev pub records : ℕ → List ℕ → List Stored
records w s = records_from w 0 s

-- how many bytes they take: where the next one would start
unfoldable pub whole_length : ℕ → List ℕ → ℕ
whole_length w s = length (log_of w (records w s))

unfoldable pub is_whole : ℕ → List ℕ → Bool
is_whole w s = eqb (whole_length w s) (length s)

-- ---- a log: its records in order, or the place where a broken one starts

pub data Reading : Type 0 where
  whole : List Stored → Reading
  broken : ℕ → Reading

unfoldable pub read_log : ℕ → List ℕ → Reading
read_log w s = cond (is_whole w s) (whole (records w s)) (broken (whole_length w s))
