-- `log_compare::Comparing::bodies` meets its contract, whether the bodies are still to be compared or not.
-- Assumes nothing.
use Rattle.std.proofs.Common.{◌≡◌, ◌∙◌, false, refl, arith}
use Rattle.log_compare.specs.Partial.{under_way}
use Rattle.log_compare.specs.Steps.{standing, took, is_alike}
use Rattle.log_compare.proofs.Moved.{taken, pass_law, are-alike, not_alike, alike-is, other-number, other-lefts}
use Rattle.log_compare.proofs.Comparing.bodies.Goals.{else-self-eq1-via-then-self-eq1+else-self, else-self-eq1-via-else-self-eq1}
use Rattle.log_compare.proofs.Comparing.bodies.Goals as goal

pub returns-then-self : goal.returns-then-self
returns-then-self c =
    let p = c.args.self in
    c.bodies_go_on.ensures ∙ are-alike (standing p) c.args.a.now c.args.b.now (alike-is p c.if-self-eq1.true c.if-self.true)

pub returns : goal.returns
unfolding standing took under_way
returns c =
    let p = c.args.self in
    let a = c.args.a.now in
    let b = c.args.b.now in
    let e : is_alike (standing p) ≡ false =
    elim c.else-self-eq1.branch [ else-self-eq1-via-then-self-eq1+else-self w ↦ other-lefts p w.if-self.false | else-self-eq1-via-else-self-eq1 w ↦ other-number p w.if-self-eq1.false ] in
    c.taking.ensures
    ∙ pass_law (standing p) a b (taken c.body.ensures refl (omega arith)) (taken c.body-2.ensures refl (omega arith))
    ∙ not_alike (standing p) a b e
