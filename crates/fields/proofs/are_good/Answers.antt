-- The rows are the bytes of the values, one behind another.
use mathlib.Core.Path.{◌∙◌, ap}
use Rattle.std.proofs.Common.{arith, ◌≡◌, ◌/◌, length}
use Rattle.std.proofs.Math.Nat.{div-mul-le_self}
use Rattle.std.proofs.lemmas.Grind.{common_steps}
use Rattle.std.specs.List.{list_all}
use Rattle.fields.proofs.Rows.{rows-good}
use Rattle.fields.proofs.are_good.Goals as goal

pub returns : goal.returns
returns g c =
    let f = g.F.Field.field in
    let b = c.args.b.now in
    let n = length b / g.row.W in
    let e : c.loop-row.good ≡ list_all f.good c.as_chunks.result.0.now = grind (arith, common_steps) in
    e ∙ ap (list_all f.good) c.as_chunks.ensures.front ∙ rows-good g.met.F.Field.local g.met.F.Field.width n b (div-mul-le_self (length b) g.row.W)
