-- `channel::command_byte` meets its contract: for a command that passed the check the scan gives the mark.
-- Assumes nothing.
use Prim.Native.Nat.{ℕ, ◌+◌, ◌*◌, ◌≤◌}
use mathlib.Core.Path.{◌≡◌, refl}
use mathlib.Core.Bool.{Bool, true, false, cond}
use mathlib.Core.List.{List}
use native.Mathlib.Omega.{arith}
use borrow.Author.Rules.{rules}
use Rattle.loose.specs.Scan.{scanned}
use Rattle.command.proofs.Marks.{marked}
use Rattle.frame.specs.Records.{bit}
use Rattle.rules.specs.Rules.{check_of, command_byte}
use Rattle.channel.proofs.command_byte.Statement.{statement}
use Rattle.channel.proofs.command_byte.Tie as tie

at_most_one : (b : Bool) (n : ℕ) → n ≡ bit b → n ≤ 1
unfolding bit
at_most_one true n e = omega arith
at_most_one false n e = omega arith

bit_is : (b : Bool) → bit b ≡ cond b 1 0
unfolding bit
bit_is true = refl
bit_is false = refl

byte-is : (command : List ℕ) (with-data found : Bool) (d m : ℕ) → check_of command ≡ 0 → found ≡ scanned command → d ≡ bit with-data → m ≡ bit found → d + 2 * m ≡ command_byte with-data command
unfolding command_byte check_of
byte-is command with-data found d m passes f-is d-is m-is = rw (d-is, m-is, bit_is found, marked command found f-is passes)

mul-result : tie.Need-overflow_mul-result
mul-result c = omega (arith, at_most_one _ _ c.bit-2.ensures)

add-result : tie.Need-overflow_add-result
add-result c = omega (arith, at_most_one _ _ c.bit-2.ensures, at_most_one _ _ c.bit.ensures)

returns : tie.Need-returns
returns c = byte-is _ _ _ _ _ c.requires c.scan.ensures c.bit.ensures c.bit-2.ensures

pub command_byte_spec : {M : Type 1} → statement M
command_byte_spec = tie.close (tie.spec (λ c κs. search rules) (λ c κs. search rules) (λ c κs. search rules) mul-result add-result returns)
