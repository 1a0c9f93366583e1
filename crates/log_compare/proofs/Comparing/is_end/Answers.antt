-- `log_compare::Comparing::is_end` meets its contract.
-- Assumes nothing.
use Rattle.log_compare.specs.Steps.{is_end, standing}
use Rattle.log_compare.proofs.Comparing.is_end.Goals as goal

pub returns-then-is_none : goal.returns-then-is_none
unfolding is_end standing
returns-then-is_none c = rw (← c.is_none.ensures, c.if-is_none.true) c.is_none-then-is_none.ensures

pub returns-else-is_none : goal.returns-else-is_none
unfolding is_end standing
returns-else-is_none c = rw (← c.is_none.ensures, c.if-is_none.false)
