-- `text::digit` meets its contract. Each way out comes from tests on the ends of the three ranges, and these say which case
-- of the definition holds. Assumes nothing.
use Rattle.std.proofs.Common.{ℕ, ◌+◌, ◌-◌, ◌≡◌, ◌≤◌, ◌<◌, Bool, true, false, ◌&&◌, Some, None, refl, arith}
use borrow.Author.Tests.{le-leb, lt-leb, lt-ltb}
use lib.Dec.{leb}
use Rattle.text.specs.Digit.{between, digit_of, as_digit}
use Rattle.text.proofs.digit.Goals as goal

and-false : (t : Bool) → (t && false) ≡ false
and-false true = refl
and-false false = refl

module _ (low high b : ℕ) where
  inside : low ≤ b → b ≤ high → between low high b ≡ true
  unfolding between
  inside h k = rw (le-leb low b h, le-leb b high k)

  below : b < low → between low high b ≡ false
  unfolding between
  below h = rw (lt-leb low b h)

  above : high < b → between low high b ≡ false
  unfolding between
  above h = rw (lt-leb b high h) (and-false (leb low b))

-- a digit, and a byte that is none
some : (b d : ℕ) → digit_of b ≡ d → d < 16 → Some d ≡ as_digit b
some b d is h = rw (is, lt-ltb d 16 h)

none : (b : ℕ) → digit_of b ≡ 16 → None ≡ as_digit b
none b is = rw is

pub returns-in-48-to-57 : goal.returns-in-48-to-57
unfolding digit_of
returns-in-48-to-57 c =
    let b = c.args.b in
    let is : digit_of b ≡ b - 48 = rw (inside 48 57 b (omega arith) (omega arith)) in
    some b (b - 48) is (omega arith)

pub returns-in-65-to-70 : goal.returns-in-65-to-70
unfolding digit_of
returns-in-65-to-70 c =
    let b = c.args.b in
    let is : digit_of b ≡ b - 55 = rw (above 48 57 b (omega arith), inside 65 70 b (omega arith) (omega arith)) in
    let value : b - 65 + 10 ≡ b - 55 = omega arith in
    rw value (some b (b - 55) is (omega arith))

pub returns-in-97-to-102 : goal.returns-in-97-to-102
unfolding digit_of
returns-in-97-to-102 c =
    let b = c.args.b in
    let is : digit_of b ≡ b - 87 = rw (above 48 57 b (omega arith), above 65 70 b (omega arith), inside 97 102 b (omega arith) (omega arith)) in
    let value : b - 97 + 10 ≡ b - 87 = omega arith in
    rw value (some b (b - 87) is (omega arith))

pub returns-in_default : goal.returns-in_default
unfolding digit_of
returns-in_default c = let b = c.args.b in none b (rw (below 48 57 b (omega arith), below 65 70 b (omega arith), below 97 102 b (omega arith)))

pub returns-in_default-2 : goal.returns-in_default-2
unfolding digit_of
returns-in_default-2 c = let b = c.args.b in none b (rw (above 48 57 b (omega arith), below 65 70 b (omega arith), below 97 102 b (omega arith)))

pub returns-in_default-3 : goal.returns-in_default-3
unfolding digit_of
returns-in_default-3 c = let b = c.args.b in none b (rw (above 48 57 b (omega arith), above 65 70 b (omega arith), below 97 102 b (omega arith)))

pub returns-in_default-4 : goal.returns-in_default-4
unfolding digit_of
returns-in_default-4 c = let b = c.args.b in none b (rw (above 48 57 b (omega arith), above 65 70 b (omega arith), above 97 102 b (omega arith)))
