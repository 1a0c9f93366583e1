-- `double_keys::list_all` meets its contract. The loop's invariant: the first i places have their indexes.
-- Assumes nothing.
use Rattle.double_keys.specs.Search.{Counts}
use Rattle.double_keys.proofs.rows.list_all.Given as goal

abbrev pub invariant-loop-i : goal.invariant-loop-i
invariant-loop-i l = Counts l.i l.initial.row l.row
