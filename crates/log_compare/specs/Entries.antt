-- Two logs compared, as document 02, E10, states it: record by record in order, counted from 1, every number at which kind or body differ, with
-- both body lengths, and then the numbers that only the longer log has. These are definitions: they assume nothing.
use Rattle.std.specs.Prelude.{ℕ, suc, Bool, cond, not, List, [], ◌∷◌, ◌++◌, length}
use Rattle.keys.specs.Keys.{equal}
use Rattle.logs.specs.Logs.{Stored, records, whole_length, is_whole}
use Rattle.log_compare.specs.declared.Entry.{Entry}
use Rattle.log_compare.specs.declared.Entry.TheVariants.{Both, First, Second}
use Rattle.std.specs.Prelude.{Option, None, Some}
use Rattle.log_compare.specs.declared.Told.{Told}

-- kind and body
unfoldable pub content : Stored → List ℕ
content r = r.low ∷ r.high ∷ r.body

unfoldable pub same : Stored → Stored → Bool
same r q = equal (content r) (content q)

-- the entries of records, of which the first have the number n
unfoldable pub entries_from : ℕ → List Stored → List Stored → List Entry
entries_from n [] [] = []
entries_from n (r ∷ rs) [] = First n (length r.body) ∷ entries_from (suc n) rs []
entries_from n [] (q ∷ qs) = Second n (length q.body) ∷ entries_from (suc n) [] qs
entries_from n (r ∷ rs) (q ∷ qs) = cond (same r q) [] (Both n (length r.body) (length q.body) ∷ []) ++ entries_from (suc n) rs qs

unfoldable pub entries_of : List ℕ → List ℕ → List Entry
entries_of a b = entries_from 1 (records 4 a) (records 4 b)

-- a log that ends inside a record is refused, by its number and the place where that record starts; log 1's fault goes first
pub record Fault : Type 0 where
  pub log : ℕ
  pub place : ℕ

unfoldable pub broken_of : List ℕ → List ℕ → Fault
broken_of a b =
    cond (not (is_whole 4 a)) (record { log = 1; place = whole_length 4 a })
    (cond (not (is_whole 4 b)) (record { log = 2; place = whole_length 4 b })
    (record { log = 0; place = 0 }))

-- ---- what is said, in numbers: which logs have the record, 1 the first, 2 the second, 3 both; its number; and the length of each body

unfoldable pub entry_told : Entry → Told
entry_told (Both n a b) = record { logs = 3; number = n; first = a; second = b }
entry_told (First n a) = record { logs = 1; number = n; first = a; second = 0 }
entry_told (Second n b) = record { logs = 2; number = n; first = 0; second = b }

unfoldable pub told_of : Option Entry → Told
told_of (Some e) = entry_told e
told_of None = record { logs = 0; number = 0; first = 0; second = 0 }
