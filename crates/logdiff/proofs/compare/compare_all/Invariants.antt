-- A line fits behind the output that waits.
use Rattle.logdiff.specs.Turns.{HasRoom}
use Rattle.logdiff.proofs.compare.compare_all.Given as goal

abbrev pub invariant-loop : goal.invariant-loop
invariant-loop l = HasRoom l.rooms
