-- The next record is the one in front, and what is behind it is left.
-- Assumes nothing.
use Rattle.std.proofs.Common.{◌<◌, ◌∙◌, length, arith, rules}
use Rattle.logs.proofs.Walk.{there, front-is, front-is_none}
use Rattle.logs.proofs.records.RecordsIterator.next.Goals as goal

pub returns-in_err-n-clause-steps : goal.returns-in_err-n-clause-steps
returns-in_err-n-clause-steps g c = let m = front-is_none g.row.W c.args.self.now.rest.now c.record_length.result c.record_length.ensures c.in_err-n.was in search rules

pub split_at-requires : goal.split_at-requires
split_at-requires g c =
    let s = c.args.self.now.rest.now in
    let f = front-is g.row.W s c.record_length.result c.record_length.ensures c.in_ok-n.n c.in_ok-n.was in
    omega (arith, f.1, there g.row.W s f.0)

pub returns-clause-steps : goal.returns-clause-steps
returns-clause-steps g c =
    let s = c.args.self.now.rest.now in
    let f = front-is g.row.W s c.record_length.result c.record_length.ensures c.in_ok-n.n c.in_ok-n.was in
    (f.0, c.split_at.ensures.front ∙ rw (f.1), c.split_at.ensures.back ∙ rw (f.1))

pub returns-clause-goes : goal.returns-clause-goes
returns-clause-goes g c =
    let s = c.args.self.now.rest.now in
    let f = front-is g.row.W s c.record_length.result c.record_length.ensures c.in_ok-n.n c.in_ok-n.was in
    let l : length c.split_at.result.1.now < length s = omega (arith, f.1, there g.row.W s f.0) in
    search rules
