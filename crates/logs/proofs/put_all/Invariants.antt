-- The records that are left, from where the loop stands, make of the output what all of them make of the old one.
use Rattle.std.proofs.Common.{◌+◌, ◌≡◌, ◌≤◌, length}
use Rattle.buffer.specs.Bytes.{write}
use Rattle.logs.specs.Convert.{wider}
use Rattle.logs.proofs.put_all.Given as goal

abbrev pub invariant-loop-record : goal.invariant-loop-record
invariant-loop-record l =
    (goal.iterator-loop-record).can_next l.record-iterator × (goal.iterator-loop-record).is_finite l.record-iterator
    × (length l.out ≡ length l.initial.out) × (l.to + length (wider l.record-iterator.rest.now) ≤ length l.out)
    × (write l.initial.out 0 (wider l.log) ≡ write l.out l.to (wider l.record-iterator.rest.now))
