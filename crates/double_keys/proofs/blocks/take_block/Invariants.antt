-- `double_keys::blocks::take_block` meets its contract. The loop's invariant: the row has the keys passed, and its places lie in s.
-- The measure is the number of entries left. Assumes nothing.
use Rattle.std.proofs.Common.{◌≡◌}
use Rattle.double_keys.proofs.BlockLaws.{Taking}
use Rattle.double_keys.proofs.blocks.take_block.Given as goal

abbrev pub invariant-loop-e : goal.invariant-loop-e
invariant-loop-e l = (l.b.rest ≡ l.rest) × Taking l.all l.initial.starts l.initial.stops l.starts l.stops l.b

abbrev pub decreases-loop-e : goal.decreases-loop-e
decreases-loop-e l = l.rest.left
