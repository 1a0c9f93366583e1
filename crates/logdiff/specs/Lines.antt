-- The lines of the output as texts. These are definitions: they assume nothing.
use Rattle.std.specs.Prelude.{ℕ, Option, Some, None, List, [], ◌∷◌, ◌++◌}
use Rattle.text.specs.Text.{decimal_of}
use Rattle.log_compare.specs.declared.Entry.{Entry}
use Rattle.log_compare.specs.declared.Entry.TheVariants.{Both, First, Second}

-- what is wrong, a space, and which log
unfoldable pub fault_of : List ℕ → ℕ → List ℕ
fault_of word log = word ++ (32 ∷ decimal_of log)

-- a space, and the length of a body, or a dash where the log lacks the record
unfoldable pub length_of : Option ℕ → List ℕ
length_of (Some n) = 32 ∷ decimal_of n
length_of None = 32 ∷ 45 ∷ []

-- a record's number, and the length of its body in each log
unfoldable pub record_of : ℕ → Option ℕ → Option ℕ → List ℕ
record_of n a b = ((decimal_of n ++ length_of a) ++ length_of b) ++ (10 ∷ [])

unfoldable pub line_of : Entry → List ℕ
line_of (Both n a b) = record_of n (Some a) (Some b)
line_of (First n a) = record_of n (Some a) None
line_of (Second n b) = record_of n None (Some b)

unfoldable pub lines_of : Option Entry → List ℕ
lines_of None = []
lines_of (Some e) = line_of e
