-- The values of as many rows as there are, by the row's law.
use mathlib.Core.Path.{◌∙◌, sym, ap}
use mathlib.Core.List.{map}
use Rattle.std.proofs.Common.{length, ◌/◌}
use Rattle.std.proofs.Math.Nat.{div-mul-le_self}
use Rattle.fields.specs.Fields.{row_from, padded, get_all}
use Rattle.fields.proofs.Rows.{rows-get, row-read}
use Rattle.fields.proofs.get_all.Goals as goal

pub returns : goal.returns
unfolding row_from
returns g c =
    let f = g.F.Field.field in
    let b = c.args.b.now in
    let w = g.row.W in
    let v = c.loop-i.invariant in
    row-read c.args.d f.get g.row.N c.min.result c.as_chunks.result.0.now c.min.ensures c.loop-i.i c.loop-i.values v.long c.loop-i-test.false v.read v.kept
    ∙ ap (λ rows. padded c.args.d g.row.N (map f.get rows)) c.as_chunks.ensures.front
    ∙ ap (padded c.args.d g.row.N) (rows-get g.met.F.Field.local g.met.F.Field.width (length b / w) b (div-mul-le_self (length b) w))
    ∙ ap (λ n. padded c.args.d g.row.N (get_all f (length b / n) b)) (sym g.met.F.Field.width)
