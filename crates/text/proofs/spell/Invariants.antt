-- The number is what is left of it in front of the digits from `i` on, and what is left has no more digits than there are places
-- before `i`, of which there is one at least.
use Rattle.std.proofs.Common.{◌≡◌, ◌-◌, ◌<◌, ◌^◌, drop}
use Rattle.text.specs.Text.{decimal_before, decimal_of}
use Rattle.text.proofs.spell.Given as goal

abbrev pub invariant-loop-i : goal.invariant-loop-i
invariant-loop-i l = (0 < l.i) × (l.rest < 10 ^ l.i) × (decimal_of l.n ≡ decimal_before (l.i - 1) l.rest (drop l.i l.digits))
