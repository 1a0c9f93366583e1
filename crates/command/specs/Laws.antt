-- What is proved beside the contracts: a part of the command's bytes is empty exactly if its number is a refusal (proofs/Empty.antt), and
-- a command without `args` has no arguments (proofs/Missing.antt).
-- These are definitions: they assume nothing.
use Rattle.std.specs.Prelude.{ℕ, ◌<◌, ◌≡◌, List, [], Err, false, length}
use Rattle.cbor.specs.Cbor.{if_map, item_at}
use Rattle.keys.specs.Keys.{among}
use Rattle.entries.specs.Entries.{entries, contents}
use Rattle.command_map.specs.CommandMap.{args_key}
use Rattle.command.specs.declared.LookupError.TheVariants.{Absent}
use Rattle.command.specs.Command.{checked, number_of}
use Rattle.command.specs.Lookup.{place_number, name_of, count_of, argument_at, part_at}

pub record EmptyExactly (number : ℕ) (bytes : List ℕ) : Type 0 where
  pub there : number ≡ 0 → 0 < length bytes
  pub refused : (number ≡ 0 → ⊥) → bytes ≡ []

-- the name
abbrev pub NameEmpty : Type 0
NameEmpty = (s : List ℕ) → EmptyExactly (number_of (checked s)) (name_of s)

-- the value of an argument
abbrev pub ValueEmpty : Type 0
ValueEmpty = (s key : List ℕ) → EmptyExactly (place_number (argument_at s key)) (part_at s (argument_at s key))

-- E1: a missing `args` reads as an empty map: where no key of a command that passes the check is `args`, each lookup gives 6, the number of `Absent`
abbrev pub outer_keys : List ℕ → List (List ℕ)
outer_keys s = if_map (item_at s 0) (λ n at. contents s (entries s 7 n at)) []

abbrev pub MissingArgs : Type 0
MissingArgs = (s key : List ℕ) → among (outer_keys s) args_key ≡ false → number_of (checked s) ≡ 0 → argument_at s key ≡ Err Absent

-- and there is none of them
abbrev pub MissingCount : Type 0
MissingCount = (s : List ℕ) → among (outer_keys s) args_key ≡ false → count_of s ≡ 0
