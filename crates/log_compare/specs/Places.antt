-- Two lent logs compared, entry by entry: the next entry from a place on, and the place behind its record. These are definitions: they assume
-- nothing.
use Rattle.std.specs.Prelude.{ℕ, ◌+◌, ◌%◌, ◌^◌, cond, List, [], ◌∷◌, length, drop}
use Rattle.logs.specs.Logs.{Stored, records}
use Rattle.log_compare.specs.Entries.{same}
use Rattle.log_compare.specs.declared.Entry.{Entry}
use Rattle.log_compare.specs.declared.Entry.TheVariants.{Both, First, Second}
use Rattle.std.specs.Prelude.{None, Some}
use Rattle.log_compare.specs.declared.Place.{Place}
use Rattle.log_compare.specs.declared.Found.{Found}

-- record 1, at the front of both logs
abbrev pub first_place : Place
first_place = record { number = 1; first = 0; second = 0 }

-- the next record, at these places
unfoldable pub moved_to : Place → ℕ → ℕ → Place
moved_to p m n = record { number = (p.number + 1) % 2 ^ 64; first = m; second = n }

-- behind a record that has so many bytes in each log
abbrev pub past : Place → ℕ → ℕ → Place
past p m n = moved_to p (p.first + m) (p.second + n)

-- the bytes of a record: four of length, two of kind, and the body
unfoldable pub bytes_in : Stored → ℕ
bytes_in r = 6 + length r.body

abbrev pub found : Entry → Place → Found
found e p = record { said = Some e; next = p }

-- the next entry of these records
unfoldable pub find_from : Place → List Stored → List Stored → Found
find_from p [] [] = record { said = None; next = p }
find_from p (r ∷ rs) [] = found (First p.number (length r.body)) (past p (bytes_in r) 0)
find_from p [] (q ∷ qs) = found (Second p.number (length q.body)) (past p 0 (bytes_in q))
find_from p (r ∷ rs) (q ∷ qs) =
    cond (same r q) (find_from (past p (bytes_in r) (bytes_in q)) rs qs)
    (found (Both p.number (length r.body) (length q.body)) (past p (bytes_in r) (bytes_in q)))

unfoldable pub next_of : Place → List ℕ → List ℕ → Found
next_of p a b = find_from p (records 4 (drop p.first a)) (records 4 (drop p.second b))
