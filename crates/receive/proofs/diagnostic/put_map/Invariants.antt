-- `receive::diagnostic::put_map` ends: the measure is the walk's distance from its end. Assumes nothing.
use Rattle.std.proofs.Common.{length}
use Rattle.receive.specs.Nearer.{distance}
use Rattle.receive.proofs.diagnostic.put_map.Given as goal

abbrev pub decreases-loop-walk : goal.decreases-loop-walk
decreases-loop-walk l = distance (length l.s) l.walk
