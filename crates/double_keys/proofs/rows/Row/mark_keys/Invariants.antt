-- `double_keys::mark_keys` meets its contract. The loop's invariant: the first i keys have their marks, and each mark is counted.
-- Assumes nothing.
use mathlib.Core.Path.{◌≡◌}
use lib.ListN.{length}
use Rattle.double_keys.proofs.Marks.{Counted}
use Rattle.double_keys.proofs.rows.Row.mark_keys.Given as goal

abbrev pub invariant-loop-i : goal.invariant-loop-i
invariant-loop-i l =
    (length l.counts ≡ length l.initial.counts) × (length l.row ≡ length l.initial.row) × Counted l.self.s.now l.self.starts.now l.self.stops.now l.counts l.row l.i
