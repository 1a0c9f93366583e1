-- `Channel::ended` meets its contract.
-- Assumes nothing.
use borrow.Author.Tests.{eq-eqb, ne_eqb}
use Rattle.channel.proofs.Channel.ended.Goals as goal
use Rattle.channel.proofs.Channel.ended.Goals.{then-number-eq11, else-number-eq11}

pub returns : goal.returns
returns c =
    elim c.if-number-eq11.branch [
      | then-number-eq11 w ↦ rw (c.answer.ensures, w.next-is, eq-eqb c.args.number 11 w.if-number-eq11.true)
      | else-number-eq11 w ↦ rw (c.answer.ensures, w.next-is, ne_eqb c.args.number 11 w.if-number-eq11.false)
    ]
