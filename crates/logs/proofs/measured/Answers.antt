-- `logs::measured` meets its contract: each record that is there is measured, and where none is, all are.
-- Assumes nothing.
use Rattle.std.proofs.Common.{◌≡◌, ap, length, arith}
use Rattle.logs.specs.Logs.{whole_length}
use Rattle.logs.specs.Convert.{wider}
use Rattle.logs.proofs.Wider.{least, both-lengths, length-on, whole-on, wider-end, whole-end}
use Rattle.logs.proofs.measured.Goals as goal

pub loop-record-preserved : goal.loop-record-preserved
loop-record-preserved c =
    let s = c.loop-record.record-iterator.rest.now in
    let f = c.in-Some.ensures.steps in
    let r = c.in-Some.record.now in
    let t = c.next.new.self.rest.now in
    (tt, tt, omega (arith, both-lengths s r t f), omega (arith, least s r t f), omega (arith, whole-on s r t f), omega (arith, length-on s r t f))

-- all records are measured
pub returns : goal.returns
returns c =
    let s = c.loop-record.record-iterator.rest.now in
    let m = c.in-None.ensures.steps in
    let e : whole_length 2 c.args.log.now ≡ c.loop-record.front.length = omega (arith, whole-end s m.0) in
    let t : length (wider c.args.log.now) ≡ c.loop-record.front.total = omega (arith, ap length (wider-end s m.0)) in
    rw (e, t)
