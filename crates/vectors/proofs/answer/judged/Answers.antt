-- `vectors::answer::judged`: the digits, the judgement and the newline stand one after another. Assumes nothing.
use Rattle.text.proofs.Texts.{behind}
use Rattle.vectors.proofs.answer.judged.Goals as goal

pub returns : goal.returns
returns c =
    let l = c.clear.new.self in
    rw c.clear.ensures at (behind 4160 l _ _ (behind 4160 l _ _ c.put_hex.ensures c.put_judgement.ensures) c.put.ensures)
