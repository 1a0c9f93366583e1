-- What the code's answer stands for that says which log is broken: the log's number and the place, or 0 and 0. These are definitions: they assume
-- nothing.
use Rattle.std.specs.Prelude.{ℕ, cond, List, Option, Some, None}
use Rattle.logs.specs.Logs.{whole_length, is_whole}
use Rattle.log_compare.specs.Entries.{Fault}
use Rattle.log_compare.specs.declared.Broken.{Broken}
use Rattle.log_compare.specs.declared.Side.{Side}
use Rattle.log_compare.specs.declared.Side.TheVariants.{First, Second}

abbrev pub side_number : Side → ℕ
side_number First = 1
side_number Second = 2

abbrev pub fault_of : Option Broken → Fault
fault_of (Some b) = record { log = side_number b.log; place = b.place }
fault_of None = record { log = 0; place = 0 }

-- where a log ends inside a record, if it does
unfoldable pub break_of : List ℕ → Option ℕ
break_of log = cond (is_whole 4 log) None (Some (whole_length 4 log))
