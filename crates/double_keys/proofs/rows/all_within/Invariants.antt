-- `double_keys::all_within` meets its contract. The loop's invariant: the places passed are within the size.
-- Assumes nothing.
use mathlib.Core.Path.{◌≡◌}
use mathlib.Core.Bool.{true}
use Rattle.double_keys.specs.Row.{within}
use Rattle.double_keys.proofs.rows.all_within.Given as goal

abbrev pub invariant-loop-i : goal.invariant-loop-i
invariant-loop-i l = (within l.starts l.stops l.i l.size ≡ true)
