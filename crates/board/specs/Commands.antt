-- What a command asks of the board, as document 02, E3, states it: which command, which arguments, which refusal. A command is known by what
-- the receiver's check and lookups promise of it. These are definitions: they assume nothing.
use Rattle.std.specs.Prelude.{ℕ, List, [], ◌∷◌, Option, None, Result, Ok, Err, Bool, true, false, cond, not, ◌&&◌, ◌||◌, ltb, leb, eqb, ℤ, pos, negsuc, length}
use Rattle.keys.specs.Keys.{part, equal}
use Rattle.cbor.specs.declared.Item.{Item}
use Rattle.cbor.specs.Cbor.{if_bytes, item_at}
use Rattle.command_map.specs.CommandMap as map
use Rattle.command_map.specs.CommandMap.{Checked}
use Rattle.command.specs.declared.Place.{Place}
use Rattle.command.specs.declared.LookupError.{LookupError}
use Rattle.command.specs.declared.LookupError.TheVariants as lookup
use Rattle.command.specs.Command.{checked}
use Rattle.command.specs.Lookup.{name_of, count_of, argument_at, part_at, integer_at}
use Rattle.board.specs.declared.Change.{Change}
use Rattle.board.specs.declared.Change.TheVariants as change
use Rattle.board.specs.declared.Refusal.{Refusal}
use Rattle.board.specs.declared.Refusal.TheVariants.{NoCommand, UnknownCommand, WrongArgument, NoCoil, LongText}

-- ---- the words: `set`, `label`, `off`; `coil`, `on`, `text`; the items true and false

abbrev pub set-name : List ℕ
set-name = 0x73 ∷ 0x65 ∷ 0x74 ∷ []

abbrev pub label-name : List ℕ
label-name = 0x6c ∷ 0x61 ∷ 0x62 ∷ 0x65 ∷ 0x6c ∷ []

abbrev pub off-name : List ℕ
off-name = 0x6f ∷ 0x66 ∷ 0x66 ∷ []

abbrev pub coil-key : List ℕ
coil-key = 0x63 ∷ 0x6f ∷ 0x69 ∷ 0x6c ∷ []

abbrev pub on-key : List ℕ
on-key = 0x6f ∷ 0x6e ∷ []

abbrev pub text-key : List ℕ
text-key = 0x74 ∷ 0x65 ∷ 0x78 ∷ 0x74 ∷ []

abbrev pub switch_item : Bool → List ℕ
switch_item true = 0xf5 ∷ []
switch_item false = 0xf4 ∷ []

-- ---- the limits

abbrev pub coil_count : ℕ
coil_count = 16

abbrev pub longest_label : ℕ
longest_label = 16

-- ---- what an argument is

-- an integer, of any size, so also one outside 64 bits
abbrev pub is_integer : Result ℤ LookupError → Bool
is_integer (Ok z) = true
is_integer (Err lookup.OutOfRange) = true
is_integer (Err (lookup.NoCommand x)) = false
is_integer (Err lookup.Absent) = false
is_integer (Err lookup.OtherType) = false

-- the coil that an integer names: 0 to 15, and 16 for every other
abbrev pub coil_named : ℤ → ℕ
coil_named (pos n) = cond (ltb n coil_count) n coil_count
coil_named (negsuc n) = coil_count

abbrev pub coil_of : Result ℤ LookupError → ℕ
coil_of (Ok z) = coil_named z
coil_of (Err e) = coil_count

-- true or false
unfoldable pub is_true : List ℕ → Bool
is_true item = equal (switch_item true) item

unfoldable pub is_switch : List ℕ → Bool
is_switch item = is_true item || equal (switch_item false) item

-- ---- the refusals

-- 41 argument missing or of the wrong type, 42 coil not 0 to 15, 43 text over 16 bytes, in this order
abbrev pub in_order : {A : Type 0} → Bool → Bool → Bool → A → Result A Refusal
in_order typed there fits c =
    cond (not typed) (Err WrongArgument)
    (cond (not there) (Err NoCoil)
    (cond (not fits) (Err LongText) (Ok c)))

-- the number of each; 24 to 26 are the check's
abbrev pub refusal_number : Refusal → ℕ
refusal_number (NoCommand x) = map.refusal_number x
refusal_number UnknownCommand = 40
refusal_number WrongArgument = 41
refusal_number NoCoil = 42
refusal_number LongText = 43

abbrev pub change_number : Result Change Refusal → ℕ
change_number (Ok x) = 0
change_number (Err r) = refusal_number r

module _ (s : List ℕ) where
  -- `coil` as the lookup gives it, and the coil that it names; the item of `on`; the item of `text`
  abbrev pub coil_argument : Result ℤ LookupError
  coil_argument = integer_at s coil-key

  abbrev pub coil : ℕ
  coil = coil_of coil_argument

  abbrev pub on_argument : List ℕ
  on_argument = part_at s (argument_at s on-key)

  abbrev pub item_in : Result Place LookupError → Option Item
  item_in (Ok p) = item_at s p.start
  item_in (Err e) = None

  unfoldable pub text_item : Option Item
  text_item = item_in (argument_at s text-key)

  -- ---- the commands

  -- `set`: `coil` and `on` (true or false)
  unfoldable pub set_change : Result Change Refusal
  set_change =
      in_order (is_integer coil_argument && is_switch on_argument) (ltb coil coil_count) true
      (change.Switch coil (is_true on_argument))

  -- `label`: `coil` and `text` (bytes)
  unfoldable pub label_change : Result Change Refusal
  label_change =
      if_bytes text_item (λ start stop.
      in_order (is_integer coil_argument) (ltb coil coil_count) (leb (length (part s start stop)) longest_label)
      (change.Label coil start stop)) (Err WrongArgument)

  module _ (name : List ℕ) (count : ℕ) where
    -- the command of this word, which takes exactly n arguments (41: one missing or extra) and asks for this; or one of the others
    abbrev pub takes : List ℕ → ℕ → Result Change Refusal → Result Change Refusal → Result Change Refusal
    takes word n c others = cond (equal word name) (cond (eqb count n) c (Err WrongArgument)) others

    -- `set`, `label`, and `off`, which takes no arguments and turns all off; 40 unknown command
    unfoldable pub by_name : Result Change Refusal
    by_name =
        takes set-name 2 set_change
        (takes label-name 2 label_change
        (takes off-name 0 (Ok change.AllOff)
        (Err UnknownCommand)))

  -- 24 to 26 come before them
  abbrev pub change_in : Checked → Result Change Refusal
  change_in (Ok c) = by_name (name_of s) (count_of s)
  change_in (Err x) = Err (NoCommand x)

  unfoldable pub change_of : Result Change Refusal
  change_of = change_in (checked s)
