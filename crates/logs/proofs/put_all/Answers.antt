-- `logs::put_all` meets its contract: each record that is there is put, and where none is, all are.
-- Assumes nothing.
use Rattle.std.proofs.Common.{◌∙◌, ap, length, sym, arith}
use Rattle.buffer.specs.Bytes.{write}
use Rattle.logs.specs.Steps.{widened}
use Rattle.buffer.proofs.WriteLaws.{write-none, length-write}
use Rattle.logs.proofs.Wider.{least, length-on, put-on, wider-end}
use Rattle.logs.proofs.put_all.Goals as goal

pub put_record-requires : goal.put_record-requires
put_record-requires c =
    let s = c.loop-record.record-iterator.rest.now in
    let f = c.in-Some.ensures.steps in
    let r = c.in-Some.record.now in
    let t = c.next.new.self.rest.now in
    (least s r t f, omega (arith, least s r t f, length-on s r t f))

pub overflow_add-to-in-loop-record : goal.overflow_add-to-in-loop-record
overflow_add-to-in-loop-record c = omega (arith, length-on c.loop-record.record-iterator.rest.now c.in-Some.record.now c.next.new.self.rest.now c.in-Some.ensures.steps)

pub loop-record-preserved : goal.loop-record-preserved
loop-record-preserved c =
    let s = c.loop-record.record-iterator.rest.now in
    let f = c.in-Some.ensures.steps in
    let r = c.in-Some.record.now in
    let t = c.next.new.self.rest.now in
    let out = c.loop-record.out in
    let to = c.loop-record.to in
    let put = c.put_record.ensures in
    let long = ap length {y = write out to (widened r)} put ∙ length-write out to (widened r) in
    (tt, tt, long ∙ c.loop-record.invariant.2, omega (arith, long, length-on s r t f), c.loop-record.invariant.4 ∙ rw put (put-on s r t f out to))

pub returns : goal.returns
returns c =
    let l = c.loop-record in
    let s = l.record-iterator.rest.now in
    sym (l.invariant.4 ∙ rw (wider-end s c.in-None.ensures.steps.0) (write-none l.out l.to))
