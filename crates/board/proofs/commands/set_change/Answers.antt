-- `board::commands::set_change` meets its contract, step by step.
-- Assumes nothing.
use Rattle.std.proofs.Common.{ap, ◌∙◌}
use Rattle.std.proofs.lemmas.Result.{err_from_is_err_and}
use Rattle.board.specs.Steps.{switch_in, coil_in}
use Rattle.board.proofs.InSteps.{set_steps}
use Rattle.board.proofs.commands.set_change.Goals as goal

pub returns-in_err-on : goal.returns-in_err-on
returns-in_err-on c =
    let p = err_from_is_err_and c.from_residual.result c.from_residual.ensures.1 in
    let on = c.in_err-on.ensures ∙ ap switch_in c.argument.ensures in
    rw (p.1, p.2, set_steps, ← on)

pub returns-in_err-coil : goal.returns-in_err-coil
returns-in_err-coil c =
    let p = err_from_is_err_and c.from_residual-in_err-coil.result c.from_residual-in_err-coil.ensures.1 in
    let on = c.in_ok-on.ensures ∙ ap switch_in c.argument.ensures in
    let coil = c.in_err-coil.ensures ∙ ap coil_in c.integer_at.ensures in
    rw (p.1, p.2, set_steps, ← on, ← coil)

pub returns : goal.returns
returns c =
    let on = c.in_ok-on.ensures ∙ ap switch_in c.argument.ensures in
    let coil = c.in_ok-coil.ensures ∙ ap coil_in c.integer_at.ensures in
    rw (set_steps, ← on, ← coil)
