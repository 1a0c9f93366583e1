-- `double_keys::rows::Row::of` meets its contract, by its tests.
-- Assumes nothing.
use Rattle.std.proofs.Common.{◌≡◌, ◌≤◌, ℕ, List, length, true, sym, ◌∙◌, refl}
use borrow.Author.Tests.{le-leb, lt-leb}
use Rattle.double_keys.specs.Row.{sound, within}
use Rattle.double_keys.proofs.RowLaws.{sound-places}
use Rattle.double_keys.proofs.rows.Row.of.Goals as goal

by-tests : (s starts stops : List ℕ) (k : ℕ) → k ≤ length starts → k ≤ length stops → k ≤ 1024 → within starts stops k (length s) ≡ true → sound s starts stops k ≡ true
unfolding sound
by-tests s starts stops k a b c w = rw (le-leb _ _ a, le-leb _ _ b, le-leb _ _ c) w

pub returns-then-starts-k : goal.returns-then-starts-k
unfolding sound
returns-then-starts-k c = rw (lt-leb _ _ c.if-starts-k.true)

pub returns-then-stops-k : goal.returns-then-stops-k
unfolding sound
returns-then-stops-k c = rw (le-leb _ _ c.if-starts-k.false, lt-leb _ _ c.if-stops-k.true)

pub returns-then-k-gt1024 : goal.returns-then-k-gt1024
unfolding sound
returns-then-k-gt1024 c = rw (le-leb _ _ c.if-starts-k.false, le-leb _ _ c.if-stops-k.false, lt-leb _ _ c.if-k-gt1024.true)

pub returns-then-not-all_within : goal.returns-then-not-all_within
unfolding sound
returns-then-not-all_within c =
    rw (le-leb _ _ c.if-starts-k.false, le-leb _ _ c.if-stops-k.false, le-leb _ _ c.if-k-gt1024.false) (sym c.all_within.ensures ∙ c.if-not-all_within.true)

pub returns : goal.returns
returns c = (by-tests _ _ _ _ c.if-starts-k.false c.if-stops-k.false c.if-k-gt1024.false (sym c.all_within.ensures ∙ c.if-not-all_within.false), refl, refl, refl, refl)

pub invariant_of-result : goal.invariant_of-result
invariant_of-result c =
    let s = by-tests _ _ _ _ c.if-starts-k.false c.if-stops-k.false c.if-k-gt1024.false (sym c.all_within.ensures ∙ c.if-not-all_within.false) in
    record { in_s = sound-places _ _ _ _ s; few = c.if-k-gt1024.false }
