-- A phase is the one of its code.
use Rattle.layout.proofs.Places.{phase_decoded}
use Rattle.layout.proofs.phase_of.Goals as goal

pub returns-in-Ok : goal.returns-in-Ok
returns-in-Ok c = phase_decoded c.in-Ok.phase c.args.code c.in-Ok.ensures
