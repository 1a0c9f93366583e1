-- `double_keys::row_double` meets its contract: a sound row is searched, and the entries if it is not.
-- Assumes nothing.
use Rattle.std.proofs.Common.{◌∙◌}
use Rattle.double_keys.specs.Row.{row_double}
use Rattle.double_keys.proofs.RowLaws.{row-keys}
use Rattle.double_keys.proofs.row_double.Goals as goal

pub returns-in-Some : goal.returns-in-Some
unfolding row_double
returns-in-Some c =
    let r = c.in-Some.ensures in
    c.double_key.ensures ∙ rw (row-keys c.in-Some.row r, r.0)

pub returns : goal.returns
unfolding row_double
returns c = c.double_far.ensures ∙ rw (c.in_default.ensures)
