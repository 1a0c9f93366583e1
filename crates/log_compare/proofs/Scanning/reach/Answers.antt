-- `log_compare::Scanning::reach` meets its contract, whether a body is under way or not.
-- Assumes nothing.
use Rattle.std.proofs.Common.{arith, le-ltb, lt-ltb}
use Rattle.log_compare.specs.Partial.{under_way}
use Rattle.log_compare.specs.Scan.{reach_of}
use Rattle.log_compare.proofs.Scanning.reach.Goals as goal

pub returns-then-self-gt0 : goal.returns-then-self-gt0
unfolding reach_of under_way
returns-then-self-gt0 c = rw (lt-ltb 0 c.args.self.under.left (omega arith))

pub returns-else-self-gt0 : goal.returns-else-self-gt0
unfolding reach_of under_way
returns-else-self-gt0 c = rw (le-ltb 0 c.args.self.under.left (omega arith)) c.missing.ensures
