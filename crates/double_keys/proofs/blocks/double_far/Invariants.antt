-- `double_keys::blocks::double_far` meets its contract. The loop's invariant: the search goes on with the entries to come, and the rows
-- are as long as they were. The measure is the number of entries left. Assumes nothing.
use Rattle.std.proofs.Common.{◌≡◌, length}
use Rattle.keys.specs.Keys.{twice}
use Rattle.double_keys.specs.Entries.{keys_to_come}
use Rattle.double_keys.proofs.blocks.double_far.Given as goal

abbrev pub invariant-loop-e : goal.invariant-loop-e
invariant-loop-e l =
    (twice (keys_to_come l.all) ≡ twice (keys_to_come l.rest)) × (length l.starts ≡ length l.initial.starts) × (length l.stops ≡ length l.initial.stops)

abbrev pub decreases-loop-e : goal.decreases-loop-e
decreases-loop-e l = l.rest.left
