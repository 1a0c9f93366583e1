-- What is said from here on is what is said from the start on. The measure is what is left of the first log.
use Rattle.std.proofs.Common.{◌≡◌, ◌-◌, length}
use Rattle.log_compare.specs.Places.{next_of}
use Rattle.log_compare.proofs.Place.next.Given as goal

abbrev pub invariant-loop-a : goal.invariant-loop-a
invariant-loop-a l = next_of l.initial.at l.first l.second ≡ next_of l.at l.first l.second

abbrev pub decreases-loop-a : goal.decreases-loop-a
decreases-loop-a l = length l.first - l.at.first
