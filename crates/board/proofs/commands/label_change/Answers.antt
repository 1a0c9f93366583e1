-- `board::commands::label_change` meets its contract, step by step.
-- Assumes nothing.
use Rattle.std.proofs.Common.{sym, ap, ◌∙◌}
use borrow.Author.Tests.{lt-leb, le-leb}
use Rattle.std.proofs.lemmas.Result.{err_from_is_err_and}
use Rattle.board.specs.Steps.{coil_in}
use Rattle.board.proofs.InSteps.{given_refusal, label_steps}
use Rattle.board.proofs.commands.label_change.Goals as goal

pub returns-in_err-start : goal.returns-in_err-start
returns-in_err-start c =
    let p = err_from_is_err_and c.from_residual.result c.from_residual.ensures.1 in
    let none = sym c.text_place.ensures ∙ c.in_err-start.ensures.ok_part in
    rw (p.1, p.2, given_refusal _ _ _ c.in_err-start.ensures.value, label_steps, none)

pub returns-in_err-coil : goal.returns-in_err-coil
returns-in_err-coil c =
    let p = err_from_is_err_and c.from_residual-in_err-coil.result c.from_residual-in_err-coil.ensures.1 in
    let text = sym c.text_place.ensures ∙ c.in_ok-start.ensures.ok_part in
    let coil = c.in_err-coil.ensures ∙ ap coil_in c.integer_at.ensures in
    rw (p.1, p.2, label_steps, text, ← coil)

pub returns-then-text-gt-LONGEST_LABEL : goal.returns-then-text-gt-LONGEST_LABEL
returns-then-text-gt-LONGEST_LABEL c =
    let text = sym c.text_place.ensures ∙ c.in_ok-start.ensures.ok_part in
    let coil = c.in_ok-coil.ensures ∙ ap coil_in c.integer_at.ensures in
    rw (label_steps, text, ← coil, ← c.part-text.ensures, lt-leb _ _ c.if-text-gt-LONGEST_LABEL.true)

pub returns : goal.returns
returns c =
    let text = sym c.text_place.ensures ∙ c.in_ok-start.ensures.ok_part in
    let coil = c.in_ok-coil.ensures ∙ ap coil_in c.integer_at.ensures in
    rw (label_steps, text, ← coil, ← c.part-text.ensures, le-leb _ _ c.if-text-gt-LONGEST_LABEL.false)
