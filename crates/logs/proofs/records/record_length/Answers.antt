-- `logs::record_length` meets its contract: there is room for a head, and behind it for the body that the head claims.
-- Assumes nothing.
use Rattle.std.proofs.Common.{◌≡◌, ◌+◌, sym, arith}
use Rattle.logs.specs.Logs.{size}
use Rattle.logs.proofs.Walk.{front_none, front-some, claimed-take}
use Rattle.logs.proofs.records.record_length.Goals as goal

pub returns-in_err-checked_sub : goal.returns-in_err-checked_sub
returns-in_err-checked_sub g c = cc (front_none g.row.W c.args.bytes.now (omega arith))

pub returns-in_err-room : goal.returns-in_err-room
returns-in_err-room g c = cc (front_none g.row.W c.args.bytes.now (omega arith))

pub returns-then-room-body : goal.returns-then-room-body
returns-then-room-body g c = cc (front_none g.row.W c.args.bytes.now (omega (arith, claimed-take g.row.W c.args.bytes.now (omega arith))))

pub returns : goal.returns
returns g c =
    let s = c.args.bytes.now in
    let e : g.row.W + 2 + c.length_in-body.result ≡ size g.row.W s = omega (arith, claimed-take g.row.W s (omega arith)) in
    rw e (sym (front-some g.row.W s (omega (arith, e))))
