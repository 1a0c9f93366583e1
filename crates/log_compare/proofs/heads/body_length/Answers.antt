-- `log_compare::heads::body_length` meets its contract, by the four bytes read.
-- Assumes nothing.
use Rattle.std.proofs.Common.{◌≡◌, length, arith}
use Rattle.logs.specs.Logs.{claimed}
use Rattle.log_compare.proofs.heads.body_length.Goals as goal

pub returns : goal.returns
unfolding claimed
returns c = let e = c.from_le_bytes.ensures in omega (arith, e)
