-- How long the lines are that the program writes: each fits a room of 4,160 bytes.
-- Assumes nothing.
use Rattle.std.specs.Prelude.{Option, None, Some}
use mathlib.Core.List.{List, ◌++◌}
use Prim.Native.Nat.{ℕ, zero-le, ◌+◌, ◌-◌, ◌*◌, ◌/◌, ◌%◌, ◌≤◌}
use native.Mathlib.Omega.{arith}
use lib.Dec.{eqb}
use lib.ListN.{length, take, length-append, length-take}
use Rattle.frame.specs.Limits.{max_command}
use Rattle.cbor.specs.declared.Item.{Item}
use Rattle.cbor.specs.declared.Item.TheVariants.{Unsigned, Negative, Bytes, Simple, Array, Map, Set}
use Rattle.cbor.specs.Cbor.{is_item, item_at}
use Rattle.text.specs.Text.{decimal_of}
use Rattle.text.proofs.Texts.{either_length, hex_length, decimal_length}
use Rattle.vectors.specs.declared.line.Part.{Part}
use Rattle.vectors.specs.declared.line.Part.TheVariants.{Digits, Note, Comment, NotHex, TooLong}
use Rattle.vectors.specs.Answer.{unsigned_word, bytes_word, array_word, map_word, set_word, outside_word, fault_of, kind_of, answer_of}
use Rattle.vectors.specs.Said.{no_digits, odd, not_hex, too_long, said_of_digits, said_of}

counted : (words : List ℕ) (n k : ℕ) → length words + 20 ≤ k → length (words ++ decimal_of n) ≤ k
counted words n k h = simp length-append (omega (arith, decimal_length n))

kind-length : (x : Option Item) → length (kind_of x) ≤ 38
kind-length (Some (Unsigned n next)) = counted unsigned_word n 38 (omega arith)
kind-length (Some (Negative n next)) = omega (arith, decimal_length (n + 1))
kind-length (Some (Bytes start stop)) = counted bytes_word (stop - start) 38 (omega arith)
kind-length (Some (Simple next)) = omega arith
kind-length (Some (Array n at)) = counted array_word n 38 (omega arith)
kind-length (Some (Map n at)) = counted map_word n 38 (omega arith)
kind-length (Some (Set n at)) = counted set_word n 38 (omega arith)
kind-length None = omega arith

pub fault_length : (number : ℕ) (what : List ℕ) → length (fault_of number what) ≤ 28 + length what
fault_length number what = simp length-append (omega (arith, decimal_length number))

pub answer-length : (s : List ℕ) → length (answer_of s) ≤ 2 * length s + 39
answer-length s = simp (length-append, hex_length) (omega (arith, either_length (is_item s) (kind_of (item_at s 0)) outside_word 38 (kind-length (item_at s 0)) (omega arith)))

module _ (number held : ℕ) (item : List ℕ) (h : length item ≤ max_command) where
  of_digits : length (said_of_digits number held item) ≤ 4135
  of_digits =
      either_length (eqb held 0) (fault_of number no_digits) _ 4135 (omega (arith, fault_length number no_digits))
      (either_length (eqb (held % 2) 1) (fault_of number odd) (answer_of (take (held / 2) item)) 4135 (omega (arith, fault_length number odd))
      (omega (arith, answer-length (take (held / 2) item), length-take (held / 2) item)))

  pub said-length : (part : Part) → length (said_of number part held item) ≤ 4135
  said-length Digits = either_length (eqb held 0) _ (said_of_digits number held item) 4135 zero-le of_digits
  said-length Note = of_digits
  said-length Comment = zero-le
  said-length NotHex = omega (arith, fault_length number not_hex)
  said-length TooLong = omega (arith, fault_length number too_long)
