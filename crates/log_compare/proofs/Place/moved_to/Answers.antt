-- `log_compare::Place::moved_to` meets its contract.
-- Assumes nothing.
use Rattle.std.proofs.Common.{refl}
use Rattle.log_compare.specs.Places.{moved_to}
use Rattle.log_compare.proofs.Place.moved_to.Goals as goal

pub returns : goal.returns
unfolding moved_to
returns c = refl
