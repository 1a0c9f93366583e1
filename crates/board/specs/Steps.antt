-- What private functions of this crate answer. No public promise cites it.
-- These are definitions: they assume nothing.
use Rattle.std.specs.Prelude.{ℕ, List, Option, Some, None, Result, Ok, Err, Bool, true, cond, ltb, ℤ}
use Rattle.keys.specs.Keys.{equal}
use Rattle.cbor.specs.Cbor.{if_bytes}
use Rattle.command.specs.declared.LookupError.{LookupError}
use Rattle.board.specs.declared.Refusal.{Refusal}
use Rattle.board.specs.declared.Refusal.TheVariants.{WrongArgument}
use Rattle.board.specs.declared.commands.Word.{Word}
use Rattle.board.specs.declared.commands.Word.TheVariants.{Set, Label, Off}
use Rattle.board.specs.Commands.{set-name, label-name, off-name, coil_count, is_integer, coil_of, is_true, is_switch, in_order, text_item}

-- the command of a name, and how many arguments it takes
abbrev pub word_of : List ℕ → Option Word
word_of name = cond (equal set-name name) (Some Set) (cond (equal label-name name) (Some Label) (cond (equal off-name name) (Some Off) None))

abbrev pub takes : Word → ℕ
takes Set = 2
takes Label = 2
takes Off = 0

-- the switch that an item is, and the coil that an argument names: 41 and 42
unfoldable pub switch_in : List ℕ → Result Bool Refusal
switch_in item = cond (is_switch item) (Ok (is_true item)) (Err WrongArgument)

unfoldable pub coil_in : Result ℤ LookupError → Result ℕ Refusal
coil_in z = in_order (is_integer z) (ltb (coil_of z) coil_count) true (coil_of z)

-- where the text of `text` starts and stops
unfoldable pub text_place : List ℕ → Option (ℕ × ℕ)
text_place s = if_bytes (text_item s) (λ start stop. Some (start, stop)) None
