-- `double_keys::stands` meets its contract. The loop's invariant: the key stands before those below index low and after those from high on.
-- Assumes nothing.
use Prim.Native.Nat.{◌-◌}
use Rattle.double_keys.proofs.Halves.{Between}
use Rattle.double_keys.proofs.blocks.stands.Given as goal

abbrev pub invariant-loop-low : goal.invariant-loop-low
invariant-loop-low l = Between l.row.s.now l.row.starts.now l.row.stops.now l.order l.row.n l.key l.low l.high

abbrev pub decreases-loop-low : goal.decreases-loop-low
decreases-loop-low l = l.high - l.low
