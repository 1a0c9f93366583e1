-- `log_compare::Comparing::taking` meets its contract, by what each side takes.
-- Assumes nothing.
use Rattle.log_compare.specs.Steps.{stepped, standing, took}
use Rattle.log_compare.proofs.Comparing.taking.Goals as goal

pub returns : goal.returns
unfolding stepped standing took
returns c = rw (c.taken.ensures, c.taken-2.ensures)
