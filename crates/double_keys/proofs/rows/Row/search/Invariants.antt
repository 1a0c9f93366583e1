-- `double_keys::search` meets its contract. The outer loop's invariant: of the keys listed the first i are taken, none of them is equal to
-- another, and they stand in order. The inner loop's: the next key stands before those below index low and after those from high on.
-- Assumes nothing.
use mathlib.Core.Path.{◌≡◌}
use mathlib.Core.Bool.{false}
use Prim.Native.Nat.{◌-◌}
use Rattle.double_keys.proofs.Halves.{Between}
use Rattle.double_keys.proofs.Sorted.{Taken}
use Rattle.double_keys.proofs.rows.Row.search.Given as goal

abbrev pub invariant-loop-low : goal.invariant-loop-low
invariant-loop-low l = (l.found ≡ false) × Between l.self.s.now l.self.starts.now l.self.stops.now l.row l.i l.key l.low l.high

abbrev pub decreases-loop-low : goal.decreases-loop-low
decreases-loop-low l = l.high - l.low

abbrev pub invariant-search : goal.invariant-search
invariant-search l = (l.found ≡ false) × Taken l.self.s.now l.self.starts.now l.self.stops.now l.self.n l.initial.row l.row l.m l.i
