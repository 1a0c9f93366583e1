-- Part by part.
use Rattle.std.proofs.Common.{arith, rules}
use Rattle.layout.proofs.Places.{state_made}
use Rattle.layout.proofs.ChannelFieldFieldSTATE.get.Goals as goal

pub returns : goal.returns
returns c = state_made c.args.b.now c.free.result _ _ _ (omega arith) (search rules) (search rules) (search rules)
