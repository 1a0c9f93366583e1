-- `double_keys::blocks::one_stands` meets its contract. The loop's invariant: the search goes on with the entries to come.
-- Assumes nothing.
use Rattle.std.proofs.Common.{◌≡◌}
use Rattle.double_keys.specs.Rows.{keys_in}
use Rattle.double_keys.specs.Entries.{keys_to_come}
use Rattle.double_keys.specs.Blocks.{meet}
use Rattle.double_keys.proofs.blocks.one_stands.Given as goal

abbrev pub invariant-loop-e : goal.invariant-loop-e
invariant-loop-e l =
    (goal.iterator-loop-e).can_next l.e-iterator × (goal.iterator-loop-e).is_finite l.e-iterator
    × (l.e-iterator.s.now ≡ l.row.s.now) × (meet (keys_in l.row) (keys_to_come l.rest) ≡ meet (keys_in l.row) (keys_to_come l.e-iterator))
