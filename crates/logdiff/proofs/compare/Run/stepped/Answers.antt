-- `logdiff::compare::Run::stepped`: the run is what the step makes of it. Assumes nothing.
use Rattle.std.proofs.Common.{refl}
use Rattle.logdiff.proofs.Turning.{next}
use Rattle.logdiff.proofs.compare.Run.stepped.Goals as goal

pub returns : goal.returns
returns c =
    next _ _ _ _ _ _ _ _ _ c.piece.ensures.0 c.piece.ensures.1 c.piece-2.ensures.0 c.piece-2.ensures.1 c.step-step.ensures refl refl
    c.taken.ensures c.taken-2.ensures refl c.requires c.put_said.ensures
