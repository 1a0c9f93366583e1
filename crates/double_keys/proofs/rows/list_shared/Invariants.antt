-- `double_keys::list_shared` meets its contract. The loop's invariant: of the first i indexes those whose mark is counted twice are listed
-- at the front of the row, and the marks from index i on still stand there.
-- Assumes nothing.
use mathlib.Core.Path.{◌≡◌}
use mathlib.Core.List.{List}
use Prim.Native.Nat.{ℕ, ◌≤◌}
use lib.ListN.{get_or}
use Rattle.double_keys.specs.Search.{Lists}
use Rattle.double_keys.proofs.rows.list_shared.Given as goal

pub record Listing (counts row₀ row : List ℕ) (i m : ℕ) : Type 0 where
  pub lists : Lists i counts row₀ row m
  pub rest : (t : ℕ) → i ≤ t → get_or row t 0 ≡ get_or row₀ t 0

abbrev pub invariant-loop-i : goal.invariant-loop-i
invariant-loop-i l = Listing l.counts l.initial.row l.row l.i l.m
