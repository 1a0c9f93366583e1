-- `log_compare::Scanning::settled` meets its contract, whether a record is under way then or not.
-- Assumes nothing.
use Rattle.std.proofs.Common.{◌≡◌, true, false, sym, ◌∙◌}
use Rattle.log_compare.specs.Partial.{is_none, under_way}
use Rattle.log_compare.specs.Scan.{scan_view, reached, settled}
use Rattle.log_compare.proofs.Scanning.settled.Goals as goal

pub returns-then-is_none : goal.returns-then-is_none
unfolding scan_view settled reached
returns-then-is_none c =
    let t = c.taken-under in
    let none : is_none (under_way t.result) ≡ true = sym c.is_none.ensures ∙ c.if-is_none.true in
    rw (← t.ensures, none)

pub returns-else-is_none : goal.returns-else-is_none
unfolding scan_view settled reached
returns-else-is_none c =
    let t = c.taken-under in
    let some : is_none (under_way t.result) ≡ false = sym c.is_none.ensures ∙ c.if-is_none.false in
    rw (← t.ensures, some)
