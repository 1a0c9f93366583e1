-- Each row is the bytes of its value.
use Rattle.std.proofs.Common.{arith}
use Rattle.fields.proofs.Rows.{row-put}
use Rattle.fields.proofs.put_all.Goals as goal

pub returns : goal.returns
returns g c =
    let v = c.loop-i.invariant in
    row-put g.F.Field.field g.row.N c.loop-i.i c.args.values.now c.loop-i.rows v.all v.long (omega arith) v.put
