-- `command::loose` meets its contract, by the answers of the check and of the scan.
-- Assumes nothing.
use Rattle.std.proofs.Common.{sym, ◌∙◌}
use Rattle.command.proofs.Marks.{mark-passed, mark-refused}
use Rattle.command.proofs.loose.Goals as goal
use Rattle.command.proofs.loose.Goals.{then-is_ok, else-is_ok}

pub returns : goal.returns
returns c = elim c.if-is_ok.branch [
  | then-is_ok w ↦ c.from.ensures ∙ rw w.from-is (mark-passed _ _ _ c.check.ensures (sym c.is_ok.ensures.value ∙ w.if-is_ok.true) w.scan.ensures)
  | else-is_ok w ↦ c.from.ensures ∙ rw (w.from-is, w.if-is_ok.false) (mark-refused _ _ c.check.ensures (sym c.is_ok.ensures.value ∙ w.if-is_ok.false))
]
