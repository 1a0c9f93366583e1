-- The switch and the length, and the label behind them.
use lib.ListN.{replicate}
use Rattle.std.proofs.Common.{arith, rules}
use Rattle.board_layout.proofs.Places.{coil_put}
use Rattle.board_layout.proofs.CoilFieldFieldCOIL.put.Goals as goal

pub returns : goal.returns
returns c = coil_put _ _ (replicate 16 0) c.args.x.label c.put.new.buffer (omega arith) (search rules)
