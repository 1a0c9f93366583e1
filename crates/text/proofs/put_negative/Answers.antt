-- `text::put_negative` meets its contract: 2^64 is written out, and any other number after n is one of 64 bits, put behind the sign.
-- Assumes nothing.
use Rattle.std.proofs.Common.{◌≡◌, ◌^◌, [], ◌∷◌, refl}
use Rattle.text.specs.Text.{decimal_before, decimal_of}
use Rattle.text.proofs.Texts.{join}
use Rattle.text.proofs.put_negative.Goals as goal

-- 2^64 in decimal
largest : decimal_of (2 ^ 64) ≡ 49 ∷ 56 ∷ 52 ∷ 52 ∷ 54 ∷ 55 ∷ 52 ∷ 52 ∷ 48 ∷ 55 ∷ 51 ∷ 55 ∷ 48 ∷ 57 ∷ 53 ∷ 53 ∷ 49 ∷ 54 ∷ 49 ∷ 54 ∷ []
unfolding decimal_of decimal_before
largest = refl

pub returns-then-n-eq18446744073709551615 : goal.returns-then-n-eq18446744073709551615
returns-then-n-eq18446744073709551615 c = rw (c.if-n-eq18446744073709551615.true, largest) c.put.ensures

pub returns : goal.returns
returns c = join c.put-p.ensures c.put_decimal.ensures
