-- What is said of the rows before, and the others.
use Rattle.std.proofs.Common.{◌≡◌, ◌&&◌, drop}
use Rattle.std.specs.List.{list_all}
use Rattle.fields.proofs.are_good.Given as goal

abbrev pub invariant-loop-row : goal.invariant-loop-row
invariant-loop-row g l = list_all g.F.Field.field.good l.rows ≡ (l.good && list_all g.F.Field.field.good (drop l.row-index l.rows))
