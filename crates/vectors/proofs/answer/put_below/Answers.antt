-- `vectors::answer::put_below`: the words and the number stand one after another. Assumes nothing.
use Rattle.text.proofs.Texts.{behind}
use Rattle.vectors.proofs.answer.put_below.Goals as goal

pub returns : goal.returns
returns g c = behind g.row.N c.args.line.now _ _ c.put.ensures c.put_negative.ensures
