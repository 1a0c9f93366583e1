-- The command read back has that name and those arguments, and the mark of the pairs (E5). Proved in proofs/ReadBack.antt.
-- These are definitions: they assume nothing.
use Rattle.std.specs.Prelude.{ℕ, ◌<◌, ◌^◌, ◌≡◌, Bool, cond, List, length, Result}
use Rattle.cbor.specs.Cbor.{pair, value}
use Rattle.loose.specs.Loose.{any_of, loose_pair, loose}
use Rattle.entries.specs.Entries.{entries, find}
use Rattle.command.specs.declared.Place.{Place}
use Rattle.command.specs.declared.LookupError.{LookupError}
use Rattle.command.specs.Command.{checked, number_of}
use Rattle.command.specs.Lookup.{place_of, place_number, name_of, count_of, mark_of, argument_at, part_at, integer_in, integer_at}
use Rattle.sender.specs.Parts.{command_bytes}

-- where the value of an argument stands in the pairs; 6 where no key is this one
abbrev pub place_in : List ℕ → ℕ → List ℕ → Result Place LookupError
place_in pairs count key = place_of (find pairs key (entries pairs 6 count 0))

-- one of the heads in the pairs is not the shortest
abbrev pub loose_pairs : List ℕ → ℕ → Bool
loose_pairs pairs count = any_of count (pair pairs (value pairs 6)) (loose_pair pairs (loose pairs 6)) 0

-- the name and the number of arguments; the mark exactly if the pairs have one, for the sender's own heads are shortest; and under every key the number, the value and the integer that the pairs have there
pub record ReadsBack (name pairs : List ℕ) (count : ℕ) (command : List ℕ) : Type 0 where
  pub named : name_of command ≡ name
  pub counted : count_of command ≡ count
  pub marked : mark_of command ≡ cond (loose_pairs pairs count) 1 0
  pub number : (key : List ℕ) → place_number (argument_at command key) ≡ place_number (place_in pairs count key)
  pub value : (key : List ℕ) → part_at command (argument_at command key) ≡ part_at pairs (place_in pairs count key)
  pub integer : (key : List ℕ) → integer_at command key ≡ integer_in pairs (place_in pairs count key)

abbrev pub ReadBack : Type 0
ReadBack =
    (name pairs : List ℕ) (count : ℕ) → length name < 2 ^ 64 → count < 2 ^ 64 → number_of (checked (command_bytes name pairs count)) ≡ 0
    → ReadsBack name pairs count (command_bytes name pairs count)
