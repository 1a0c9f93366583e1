-- `log_compare::Comparing::compared` meets its contract, whether the record is still alike or not.
-- Assumes nothing.
use Rattle.std.proofs.Common.{◌∙◌}
use Rattle.log_compare.specs.Steps.{standing, took}
use Rattle.log_compare.proofs.Comparing.compared.Goals as goal

pub returns-then-is_alike : goal.returns-then-is_alike
unfolding standing took
returns-then-is_alike c = c.taking.ensures ∙ rw c.if-is_alike.true

pub returns : goal.returns
unfolding standing took
returns c = c.taking-2.ensures ∙ rw c.if-is_alike.false
