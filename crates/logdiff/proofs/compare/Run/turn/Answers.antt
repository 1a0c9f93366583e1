-- `logdiff::compare::Run::turn`: the step comes behind the two reads. Assumes nothing.
use Rattle.std.proofs.Common.{refl}
use Rattle.logdiff.proofs.Turning.{turned}
use Rattle.logdiff.proofs.compare.Run.turn.Goals as goal

pub returns : goal.returns
returns c = turned _ _ _ _ _ _ refl refl c.filled-first.ensures c.filled-second.ensures _ c.stepped.ensures
