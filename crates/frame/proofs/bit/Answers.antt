-- `frame::bit` meets its contract.
-- Assumes nothing.
use Rattle.std.proofs.Common.{◌≡◌, Bool, true, false, refl, ◌∙◌}
use mir.Val.{bool_byte}
use Rattle.frame.specs.Records.{bit}
use Rattle.frame.proofs.bit.Goals as goal

bit_byte : (b : Bool) → bool_byte b ≡ bit b
unfolding bit
bit_byte true = refl
bit_byte false = refl

pub returns : goal.returns
returns c = c.from.ensures ∙ bit_byte _
