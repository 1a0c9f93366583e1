-- What holds of each refusal, and of a command by its name and its arguments, holds of the check's answer.
-- Assumes nothing.
use Rattle.std.specs.Prelude.{Some, Ok, Err}
use mathlib.Core.Path.{◌≡◌}
use mathlib.Core.Bool.{true}
use mathlib.Core.List.{List}
use Prim.Native.Nat.{ℕ}
use Rattle.cbor.specs.declared.Item.TheVariants.{Bytes, Map}
use Rattle.cbor.specs.Cbor.{item_at, is_item}
use Rattle.cbor.proofs.Ahead.{by_test}
use Rattle.cbor.proofs.Folds.{by_bytes, by_map}
use Rattle.entries.specs.declared.Entry.{Entry}
use Rattle.entries.specs.Entries.{all, entries}
use Rattle.command_map.specs.declared.Refusal.TheVariants.{NotItem, NotCommand, DoubleKey}
use Rattle.command_map.specs.CommandMap.{Checked, name-key, args_key, allowed, value_under, command_with, double, map_of}
use Rattle.command.specs.Command.{checked}

module _ (s : List ℕ) (P : Checked → Type 0) (not-item : P (Err NotItem)) (not-command : P (Err NotCommand)) (double-key : P (Err DoubleKey)) where
  abbrev Commands : List Entry → Type 0
  Commands es = all (allowed s) es ≡ true → (start stop : ℕ) → value_under s name-key es ≡ Some (Bytes start stop) → P (Ok (command_with start stop (value_under s args_key es)))

  by_answer : (es : List Entry) → Commands es → P (map_of s es)
  unfolding map_of
  by_answer es f = by_test P (all (allowed s) es) (λ ok.
      by_bytes P (value_under s name-key es) _ (Err NotCommand) (λ start stop x.
      by_test P (double s es) (λ d. double-key) (λ d. f ok start stop x)) not-command) (λ ok. not-command)

  pub by-checked : ((n at : ℕ) → item_at s 0 ≡ Some (Map n at) → Commands (entries s 7 n at)) → P (checked s)
  unfolding checked
  by-checked f = by_test P (is_item s) (λ h. by_map P (item_at s 0) _ (Err NotCommand) (λ n at e. by_answer (entries s 7 n at) (f n at e)) not-command) (λ h. not-item)
