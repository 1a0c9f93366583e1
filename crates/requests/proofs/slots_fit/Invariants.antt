-- What is left to judge, and to count, is the rest.
use Rattle.std.proofs.Common.{◌+◌, ◌≡◌, ◌≤◌, length}
use Rattle.requests.specs.Slots.{slots_fit, used_count}
use Rattle.requests.proofs.slots_fit.Given as goal

abbrev pub invariant-loop-s : goal.invariant-loop-s
invariant-loop-s l =
    (l.used + length l.rest ≤ 8) × (slots_fit l.fn.slots ≡ slots_fit l.rest) × (l.used + used_count l.rest ≡ used_count l.fn.slots)

abbrev pub decreases-loop-s : goal.decreases-loop-s
decreases-loop-s l = length l.rest
