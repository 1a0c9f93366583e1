-- `command_map::read_fields` meets its contract: the walk stops where there is no entry, or goes on with the next.
-- Assumes nothing.
use Rattle.std.proofs.Common.{◌≡◌, ◌+◌, ◌-◌, refl, sym, ◌∙◌, arith}
use Rattle.double_keys.proofs.RowLaws.{begun, finished, broken, turn}
use Rattle.command_map.proofs.Judgement.{next-judged}
use Rattle.command_map.proofs.read_fields.Goals as goal

pub loop-init : goal.loop-init
loop-init c = let e : c.args.n - 0 ≡ c.args.n = omega arith in (rw e refl, rw e (begun _ _ _ _ _ _))

pub returns-in_err-e : goal.returns-in_err-e
returns-in_err-e c = rw c.from_residual.ensures (broken c.loop.invariant.1 (omega arith) c.in_err-e.ensures).place

pub loop-preserved : goal.loop-preserved
loop-preserved c =
    let i = c.loop.invariant in
    let n : c.args.n - (c.loop.counter + 1) ≡ c.args.n - c.loop.counter - 1 = omega arith in
    let g = turn i.1 (omega arith) c.in_ok-e.ensures c.keep-kept.ensures in
    (i.0 ∙ rw (g.first, next-judged _ _ _ _ c.and_then-judged.ensures, n, c.next-p.ensures), rw (n, c.next-p.ensures) g.on)

pub returns : goal.returns
returns c =
    let i = c.loop.invariant in
    let o = finished i.1 (omega arith) in
    record { ends = o.place; all = sym (i.0 ∙ rw o.none); same = o.same }
