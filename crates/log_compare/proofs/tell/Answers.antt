-- `log_compare::tell` meets its contract.
-- Assumes nothing.
use Rattle.std.proofs.Common.{rules}
use Rattle.log_compare.specs.Entries.{told_of}
use Rattle.log_compare.proofs.tell.Goals as goal

pub returns-in-Some : goal.returns-in-Some
unfolding told_of
returns-in-Some c = rw c.in-Some.is c.from.ensures

pub returns-in-None : goal.returns-in-None
unfolding told_of
returns-in-None c = let e = c.default.ensures in rw c.in-None.is (search rules)
