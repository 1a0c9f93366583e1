-- `receive::input::Run::take_all` ends: the measure is what is left of the bytes, of which each turn takes some. Assumes nothing.
use Rattle.std.proofs.Common.{length}
use Rattle.receive.proofs.input.Run.take_all.Given as goal

abbrev pub decreases-loop-rest : goal.decreases-loop-rest
decreases-loop-rest g l = length l.rest
