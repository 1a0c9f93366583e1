-- `double_keys::insert` meets its contract. The loop's invariant: the places from index j on have moved up by one.
-- Assumes nothing.
use mathlib.Core.Path.{◌≡◌}
use mathlib.Core.List.{List}
use Prim.Native.Nat.{ℕ, suc, ◌≤◌, ◌<◌}
use lib.ListN.{length, get_or}
use Rattle.double_keys.proofs.rows.insert.Given as goal

pub record Moved (row₀ row : List ℕ) (k j : ℕ) : Type 0 where
  pub long : length row ≡ length row₀
  pub front : (t : ℕ) → t < j → get_or row t 0 ≡ get_or row₀ t 0
  pub back : (t : ℕ) → j ≤ t → t < k → get_or row (suc t) 0 ≡ get_or row₀ t 0
  pub beyond : (t : ℕ) → k < t → get_or row t 0 ≡ get_or row₀ t 0

abbrev pub invariant-loop-j : goal.invariant-loop-j
invariant-loop-j l = (l.at ≤ l.j) × (l.j ≤ l.k) × Moved l.initial.row l.row l.k l.j

abbrev pub decreases-loop-j : goal.decreases-loop-j
decreases-loop-j l = l.j
