-- `log_compare::Partial::waiting` meets its contract: a byte of a head is missing in any case.
-- Assumes nothing.
use Rattle.std.proofs.Common.{arith}
use Rattle.log_compare.proofs.Held.{few}
use Rattle.log_compare.proofs.Partial.waiting.Goals as goal

pub overflow_sub-missing : goal.overflow_sub-missing
overflow_sub-missing c = omega (arith, few c.args.self)
