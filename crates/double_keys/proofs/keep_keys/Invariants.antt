-- `double_keys::keep_keys` meets its contract. The loop's invariant: the keys passed are byte strings, and the row has them.
-- Assumes nothing.
use Rattle.std.proofs.Common.{◌≡◌}
use Rattle.entries.specs.Entries.{all, is_keyed}
use Rattle.double_keys.specs.Entries.{to_come}
use Rattle.double_keys.proofs.RowLaws.{Walking}
use Rattle.double_keys.proofs.keep_keys.Given as goal

abbrev pub invariant-loop-e : goal.invariant-loop-e
invariant-loop-e l =
    (goal.iterator-loop-e).can_next l.e-iterator × (goal.iterator-loop-e).is_finite l.e-iterator
    × (l.e-iterator.s.now ≡ l.all.s.now) × (l.e-iterator.levels ≡ l.all.levels) × (all is_keyed (to_come l.all) ≡ all is_keyed (to_come l.e-iterator))
    × Walking l.all.s.now l.all.levels l.all.left l.all.at l.initial.starts l.initial.stops l.starts l.stops l.e-iterator.at l.e-iterator.left l.k
