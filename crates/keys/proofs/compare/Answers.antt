-- `keys::compare` meets its contract: the lengths decide, or the bytes. What `by_bytes` requires at its one call is that they are equal.
-- Assumes nothing.
use Rattle.std.proofs.Common.{sym, ◌∙◌}
use Rattle.keys.proofs.Before.{by-lengths, decides}
use Rattle.keys.proofs.compare.Goals as goal

pub returns-in-Equal : goal.returns-in-Equal
returns-in-Equal c = c.by_bytes.ensures ∙ sym (by-lengths _ _ ∙ rw (sym c.cmp.ensures ∙ c.in-Equal.is))

pub returns-in_default : goal.returns-in_default
returns-in_default c = sym (by-lengths _ _ ∙ rw (← c.cmp.ensures) (decides _ _ c.in_default.not-Equal))
