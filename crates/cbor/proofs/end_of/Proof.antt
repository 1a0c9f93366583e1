-- `cbor::end_of` meets its contract: the tests say on which side of the end the last byte lies.
-- Assumes nothing.
use borrow.Author.Rules.{rules}
use borrow.Author.Tests.{le-ltb, lt-ltb}
use mathlib.Core.Path.{◌≡◌}
use mathlib.Core.List.{List}
use Prim.Native.Nat.{ℕ, ◌+◌, ◌≤◌, ◌<◌}
use native.Mathlib.Omega.{arith}
use lib.ListN.{length}
use Rattle.cbor.specs.Cbor.{end_of}
use Rattle.cbor.proofs.end_of.Statement.{statement}
use Rattle.cbor.proofs.end_of.Tie as tie

past : (s : List ℕ) (from n : ℕ) → length s < from + n → length s + 1 ≡ end_of s from n
unfolding end_of
past s from n h = rw (lt-ltb _ _ h) (omega arith)

within : (s : List ℕ) (from n : ℕ) → from + n ≤ length s → from + n ≡ end_of s from n
unfolding end_of
within s from n h = rw (le-ltb _ _ h)

returns : tie.Need-returns-then-s-from
returns c = past _ _ _ (omega arith)

returns-2 : tie.Need-returns-then-room-n
returns-2 c = past _ _ _ (omega arith)

returns-3 : tie.Need-returns
returns-3 c = within _ _ _ (omega arith)

pub end_of_spec : {M : Type 1} → statement M
end_of_spec = tie.close (tie.spec (λ c. search rules) returns (λ c. search rules) returns-2 (λ c. search rules) returns-3)
