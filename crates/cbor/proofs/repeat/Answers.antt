-- A turn reads one of those that are left; where `read` refuses, all is refused.
use Rattle.std.proofs.Common.{◌≡◌, ◌+◌, ◌-◌, sym, ◌∙◌, arith}
use Rattle.cbor.proofs.Turns.{stops, goes, ends}
use Rattle.cbor.proofs.repeat.Goals as goal

pub returns-in_err-p : goal.returns-in_err-p
returns-in_err-p g c = λ r h.
    let e = h c.loop.p c.read.result c.read.ensures in
    c.from_residual.ensures ∙ stops r c.args.n c.args.at (c.args.n - c.loop.counter) c.loop.p (c.loop.invariant r h) (omega arith) (sym e ∙ c.in_err-p.was)

pub loop-preserved : goal.loop-preserved
loop-preserved g c = λ r h.
    let e = h c.loop.p c.read.result c.read.ensures in
    let f = goes r c.args.n c.args.at (c.args.n - c.loop.counter) c.loop.p (c.loop.invariant r h) c.in_ok-p.p (omega arith) (sym e ∙ c.in_ok-p.was) in
    let n : c.args.n - c.loop.counter - 1 ≡ c.args.n - (c.loop.counter + 1) = omega arith in
    rw (sym n) f

pub returns : goal.returns
returns g c = λ r h. ends r _ _ _ _ (c.loop.invariant r h) (omega arith)
