-- The lookups in a command, as document 01, "Command bytes", states them. All run the check first; their own numbers are then 6, 7, 8.
-- Definitions on the list of a command's bytes: they assume nothing.
use Rattle.std.specs.Prelude.{ℕ, ◌^◌, List, [], Option, None, Some, Result, Ok, Err, cond, ltb, ℤ, pos, negsuc}
use Rattle.cbor.specs.declared.Item.{Item}
use Rattle.cbor.specs.declared.Item.TheVariants.{Unsigned, Negative, Bytes, Simple, Array, Map, Set}
use Rattle.cbor.specs.Cbor.{item_at}
use Rattle.loose.specs.Loose.{loose}
use Rattle.keys.specs.Keys.{part}
use Rattle.entries.specs.declared.Entry.{Entry}
use Rattle.entries.specs.declared.Entry.TheVariants.{Keyed, Other}
use Rattle.entries.specs.Entries.{entries, find}
use Rattle.command_map.specs.CommandMap.{Checked, refusal_number}
use Rattle.command.specs.declared.Place.{Place}
use Rattle.command.specs.declared.LookupError.{LookupError}
use Rattle.command.specs.declared.LookupError.TheVariants.{NoCommand, Absent, OtherType, OutOfRange}
use Rattle.command.specs.Command.{checked, if_command}

-- document 01's number of each refusal: the check's; 6: key absent; 7: another type found; 8: an integer outside -2^63 to 2^63-1
abbrev pub error_number : LookupError → ℕ
error_number (NoCommand x) = refusal_number x
error_number Absent = 6
error_number OtherType = 7
error_number OutOfRange = 8

-- document 01's number and the value of each answer
abbrev pub answer_number : {A : Type 0} → Result A LookupError → ℕ
answer_number (Ok x) = 0
answer_number (Err e) = error_number e

abbrev pub place_number : Result Place LookupError → ℕ
place_number p = answer_number p

abbrev pub number_number : Result ℤ LookupError → ℕ
number_number z = answer_number z

abbrev pub number_value : Result ℤ LookupError → ℤ
number_value (Ok z) = z
number_value (Err e) = pos 0

-- where an argument's value stands, the whole item
abbrev pub place_of : Option Entry → Result Place LookupError
place_of (Some (Keyed start stop next)) = Ok (record { start = stop; stop = next })
place_of (Some (Other next)) = Err Absent
place_of None = Err Absent

-- for the head value n of major type 0 or 1
abbrev pub signed : ℕ → ℤ → Result ℤ LookupError
signed n z = cond (ltb n (2 ^ 63)) (Ok z) (Err OutOfRange)

-- An item as a signed integer, where head value n of major type 1 means -1-n, which is `negsuc n`.
abbrev pub signed_of : Option Item → Result ℤ LookupError
signed_of (Some (Unsigned n next)) = signed n (pos n)
signed_of (Some (Negative n next)) = signed n (negsuc n)
signed_of (Some (Bytes start stop)) = Err OtherType
signed_of (Some (Simple next)) = Err OtherType
signed_of (Some (Array n at)) = Err OtherType
signed_of (Some (Map n at)) = Err OtherType
signed_of (Some (Set n at)) = Err OtherType
signed_of None = Err OtherType

module _ (s : List ℕ) where
  -- the name: its content, empty if refused
  unfoldable pub name_of : List ℕ
  name_of = if_command (checked s) (λ start stop count first. part s start stop) (λ n. [])

  -- the number of arguments, 0 if refused (E3)
  unfoldable pub count_of : ℕ
  count_of = if_command (checked s) (λ start stop count first. count) (λ n. 0)

  -- the mark: 1 if the command is written loosely, one of its heads not the shortest, else 0; 0 if refused (E5)
  unfoldable pub mark_of : ℕ
  mark_of = if_command (checked s) (λ start stop count first. cond (loose s 8 0) 1 0) (λ n. 0)

  -- the place of an argument in what the check found
  abbrev pub place_in : Checked → List ℕ → Result Place LookupError
  place_in (Ok c) key = place_of (find s key (entries s 6 c.count c.first))
  place_in (Err x) key = Err (NoCommand x)

  unfoldable pub argument_at : List ℕ → Result Place LookupError
  argument_at key = place_in (checked s) key

  -- the value of an argument: the whole item, empty if refused
  abbrev pub part_at : Result Place LookupError → List ℕ
  part_at (Ok p) = part s p.start p.stop
  part_at (Err e) = []

  -- an argument as a signed integer
  abbrev pub integer_in : Result Place LookupError → Result ℤ LookupError
  integer_in (Ok p) = signed_of (item_at s p.start)
  integer_in (Err e) = Err e

  unfoldable pub integer_at : List ℕ → Result ℤ LookupError
  integer_at key = integer_in (argument_at key)
