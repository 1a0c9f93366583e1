-- `double_keys::stands_again` meets its contract: a key stands among others exactly if it is found there.
-- Assumes nothing.
use Rattle.std.proofs.Common.{◌∙◌}
use Rattle.entries.proofs.Walk.{among-find}
use Rattle.double_keys.proofs.blocks.stands_again.Goals as goal

pub returns : goal.returns
returns c =
    c.is_some.ensures ∙ rw (c.in-Keyed.is, c.find_key.ensures, c.part-key.ensures, among-find)
