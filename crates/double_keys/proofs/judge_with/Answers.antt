-- `double_keys::judge_with` meets its contract: a sound row has the keys of the entries, and the entries are searched if it is not sound.
-- Assumes nothing.
use Rattle.std.proofs.Common.{◌∙◌}
use Rattle.double_keys.specs.DoubleKeys.{keys_of}
use Rattle.double_keys.proofs.RowLaws.{sound_starts, row-keys}
use Rattle.double_keys.proofs.judge_with.Goals as goal

pub returns-in_default : goal.returns-in_default
unfolding keys_of
returns-in_default g c = rw (rw c.in_default.is at c.keep_keys.ensures)

pub returns-in-Some-of : goal.returns-in-Some-of
unfolding keys_of
returns-in-Some-of g c =
    let h = rw c.in-Some.is at c.keep_keys.ensures in
    let r = c.in-Some-of.ensures in
    c.strings_keys.ensures ∙ rw (c.double_key.ensures, row-keys c.in-Some-of.row r, h.strings, h.same (sound_starts _ _ _ _ r.0))

pub returns : goal.returns
unfolding keys_of
returns g c =
    let h = rw c.in-Some.is at c.keep_keys.ensures in
    c.strings_keys-2.ensures ∙ rw (c.double_far.ensures, h.strings)
