-- `vectors::answer::fault`: its five texts stand one after another. Assumes nothing.
use Rattle.text.proofs.Texts.{behind}
use Rattle.vectors.proofs.answer.fault.Goals as goal

pub returns : goal.returns
returns g c =
    let l = c.clear.new.self in
    let number = behind g.row.N l _ _ c.put.ensures c.put_decimal.ensures in
    let what = behind g.row.N l _ _ (behind g.row.N l _ _ number c.put-2.ensures) c.put-3.ensures in
    rw c.clear.ensures at (behind g.row.N l _ _ what c.put-4.ensures)
