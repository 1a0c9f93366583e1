-- `keys::same_key` meets its contract: the comparison that goes by the lengths first is equality by content.
-- Assumes nothing.
use Rattle.std.proofs.Common.{◌∙◌}
use Rattle.keys.specs.Order.{same}
use Rattle.keys.proofs.Before.{same-is-equal}
use Rattle.keys.proofs.same_key.Goals as goal

pub returns : goal.returns
unfolding same
returns c = c.is_eq.ensures ∙ rw c.compare.ensures (same-is-equal _ _)
