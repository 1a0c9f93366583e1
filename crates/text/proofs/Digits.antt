-- What an answer of `text::digit` says of its byte. Assumes nothing.
use Rattle.std.proofs.Common.{◌≡◌, ℕ, ◌<◌, Bool, true, false, Some, None, cond, refl, sym, arith}
use borrow.Author.Tests.{ltb-true, ltb-false}
use Rattle.std.proofs.lemmas.Option.{cond_some, none-some}
use Rattle.text.specs.Digit.{digit_of, as_digit}

none-false : (t : Bool) (v : ℕ) → None ≡ cond t (Some v) None → t ≡ false
none-false true v h = absurd (none-some v h)
none-false false v h = refl

-- no digit
pub none : (b : ℕ) → None ≡ as_digit b → 15 < digit_of b
none b h = let le = ltb-false (digit_of b) 16 (none-false _ _ h) in omega arith

-- a digit is the byte's value
pub some : (b d : ℕ) → Some d ≡ as_digit b → (digit_of b ≡ d) × (d < 16)
some b d h =
    let both = cond_some _ _ _ (sym h) in
    let low = ltb-true (digit_of b) 16 both.0 in
    (both.1, omega (arith, both.1))
