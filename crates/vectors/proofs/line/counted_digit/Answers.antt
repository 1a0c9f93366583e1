-- `vectors::line::counted_digit`: the tests that led to each `return` say which case of `part_after` holds. Assumes nothing.
use borrow.Author.Tests.{lt-ltb, le-ltb, le-leb, lt-leb, ne_eqb}
use mathlib.Core.Logic.{◌⊎◌, inl, inr}
use Rattle.std.proofs.Common.{◌≡◌, ℕ, ◌*◌, ◌<◌, ◌≤◌, false, Some, None, cond, ◌&&◌, eqb, ltb, leb, ◌∙◌, arith}
use Rattle.frame.specs.Limits.{max_command}
use Rattle.text.specs.Digit.{digit_of, as_digit}
use Rattle.text.proofs.Digits.{none, some}
use Rattle.vectors.specs.declared.line.Part.TheVariants.{Digits, Note, NotHex, TooLong}
use Rattle.vectors.specs.Taken.{part_after}
use Rattle.vectors.proofs.line.counted_digit.Goals as goal

note : (held b : ℕ) → ((b ≡ 32) ⊎ ((b ≡ 32 → ⊥) × (b ≡ 9))) → part_after held b ≡ Note
unfolding part_after
note held b (inl e) = rw e
note held b (inr e) = rw e.1

-- a `#` behind a digit begins no comment
no-comment : (held b : ℕ) → (((b ≡ 35) × (held ≡ 0 → ⊥)) ⊎ (b ≡ 35 → ⊥)) → (eqb b 35 && eqb held 0) ≡ false
no-comment held b (inl e) = rw (e.0, ne_eqb held 0 e.1)
no-comment held b (inr e) = rw (ne_eqb b 35 e)

-- past the tests for a note and for a comment
module _ (held b : ℕ) (space : b ≡ 32 → ⊥) (tab : b ≡ 9 → ⊥) (start : ((b ≡ 35) × (held ≡ 0 → ⊥)) ⊎ (b ≡ 35 → ⊥)) where
  rest : part_after held b ≡ cond (ltb 15 (digit_of b)) NotHex (cond (leb (2 * max_command) held) TooLong Digits)
  unfolding part_after
  rest = rw (ne_eqb b 32 space, ne_eqb b 9 tab, no-comment held b start)

  no_digit : None ≡ as_digit b → part_after held b ≡ NotHex
  no_digit h = rest ∙ rw (lt-ltb 15 (digit_of b) (none b h))

  over : (d : ℕ) → Some d ≡ as_digit b → 2 * max_command ≤ held → part_after held b ≡ TooLong
  over d h k = let s = some b d h in rest ∙ rw (le-ltb 15 (digit_of b) (omega (arith, s.0, s.1)), le-leb (2 * max_command) held k)

  counts : (d : ℕ) → Some d ≡ as_digit b → held < 2 * max_command → part_after held b ≡ Digits
  counts d h k = let s = some b d h in rest ∙ rw (le-ltb 15 (digit_of b) (omega (arith, s.0, s.1)), lt-leb (2 * max_command) held k)

pub returns-then-b-eq32-clause-value : goal.returns-then-b-eq32-clause-value
returns-then-b-eq32-clause-value c = rw (note c.args.held c.args.b c.then-b-eq32.either)

pub returns-then-held-eq0-clause-value : goal.returns-then-held-eq0-clause-value
unfolding part_after
returns-then-held-eq0-clause-value c = rw (c.if-b-eq35.true, c.if-held-eq0.true)

pub returns-in_default-clause-value : goal.returns-in_default-clause-value
returns-in_default-clause-value c =
    rw (no_digit c.args.held c.args.b c.if-b-eq32.false c.if-b-eq9.false c.else-b-eq35.either c.in_default.ensures)

pub returns-then-held-ge-MOST_DIGITS-clause-value : goal.returns-then-held-ge-MOST_DIGITS-clause-value
returns-then-held-ge-MOST_DIGITS-clause-value c =
    rw (over c.args.held c.args.b c.if-b-eq32.false c.if-b-eq9.false c.else-b-eq35.either c.in-Some.d c.in-Some.ensures (omega arith))

pub returns-clause-value : goal.returns-clause-value
returns-clause-value c =
    let d = c.in-Some.d in
    let is = some c.args.b d c.in-Some.ensures in
    rw (counts c.args.held c.args.b c.if-b-eq32.false c.if-b-eq9.false c.else-b-eq35.either d c.in-Some.ensures (omega arith), is.0)
