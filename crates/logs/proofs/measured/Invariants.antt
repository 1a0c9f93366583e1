-- The bytes passed and those of the records that are left are all that the whole records take, and the total so far and what is left make
-- up the new log's length.
use Rattle.std.proofs.Common.{◌+◌, ◌*◌, ◌≡◌, ◌≤◌, length}
use Rattle.logs.specs.Logs.{whole_length}
use Rattle.logs.specs.Convert.{wider}
use Rattle.logs.proofs.measured.Given as goal

abbrev pub invariant-loop-record : goal.invariant-loop-record
invariant-loop-record l =
    (goal.iterator-loop-record).can_next l.record-iterator × (goal.iterator-loop-record).is_finite l.record-iterator
    × (l.front.length + length l.record-iterator.rest.now ≡ length l.log) × (2 * l.front.total ≤ 3 * l.front.length)
    × (whole_length 2 l.log ≡ l.front.length + whole_length 2 l.record-iterator.rest.now)
    × (length (wider l.log) ≡ l.front.total + length (wider l.record-iterator.rest.now))
