-- `log_compare::Comparing::step` meets its contract, whether a body is under way or not.
-- Assumes nothing.
use Rattle.std.proofs.Common.{◌≡◌, ◌∙◌, false}
use Rattle.log_compare.specs.Steps.{standing, is_between}
use Rattle.log_compare.proofs.Moved.{step_heads, step_bodies, between-is, first-body, second-body}
use Rattle.log_compare.proofs.Comparing.step.Goals.{else-self-eq0-via-then-self-eq0+else-self-eq0-2, else-self-eq0-via-else-self-eq0}
use Rattle.log_compare.proofs.Comparing.step.Goals as goal

pub returns-then-self-eq0-2 : goal.returns-then-self-eq0-2
returns-then-self-eq0-2 c =
    let p = c.args.self in
    let a = c.args.a in
    let b = c.args.b in
    c.heads.ensures ∙ step_heads (standing p) a.bytes.now a.is_last b.bytes.now b.is_last (between-is p c.if-self-eq0.true c.if-self-eq0-2.true)

pub returns-else-self-eq0 : goal.returns-else-self-eq0
returns-else-self-eq0 c =
    let p = c.args.self in
    let a = c.args.a in
    let b = c.args.b in
    let e : is_between (standing p) ≡ false =
    elim c.else-self-eq0.branch [ else-self-eq0-via-then-self-eq0+else-self-eq0-2 w ↦ second-body p w.if-self-eq0-2.false | else-self-eq0-via-else-self-eq0 w ↦ first-body p w.if-self-eq0.false ] in
    c.bodies.ensures ∙ step_bodies (standing p) a.bytes.now a.is_last b.bytes.now b.is_last e
