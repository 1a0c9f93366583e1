-- The bytes from the place on where the loop stands make the number.
use Rattle.std.proofs.Common.{◌≡◌, ◌-◌, ◌^◌, min, length}
use Rattle.fields.specs.Fields.{little}
use Rattle.logs.proofs.records.length_in.Given as goal

abbrev pub invariant-loop-i : goal.invariant-loop-i
invariant-loop-i l = l.number ≡ min (little (length l.field - l.i) l.i l.field) (2 ^ 64 - 1)
