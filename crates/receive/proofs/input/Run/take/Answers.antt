-- `receive::input::Run::take`: feed takes no more bytes than it is given. Assumes nothing.
use Rattle.std.proofs.Common.{arith}
use Rattle.session.proofs.Pieces.{feed-within}
use Rattle.channel.specs.Channel.{channel}
use Rattle.receive.proofs.input.Run.take.Goals as goal

pub returns : goal.returns
returns g c = (omega arith, feed-within channel _ _ _ c.feed-fed.ensures)
