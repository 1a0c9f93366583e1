-- `loose::skip_wide` meets its contract, for each width.
-- Assumes nothing.
use Rattle.std.proofs.Common.{◌≡◌, ℕ, ◌*◌, ◌/◌, ◌%◌, ◌^◌, ◌≤◌, ◌<◌, List, get_or, refl, sym, ◌∙◌, arith}
use borrow.Author.Tests.{lt-ltb, le-ltb}
use Rattle.cbor.specs.Cbor.{width, shortest}
use Rattle.loose.specs.Skip.{Halved}
use Rattle.loose.proofs.skip_wide.Goals as goal

-- a head of one of the three widths
halved : (s : List ℕ) (at info half : ℕ) → (get_or s at 0 / 32 ≡ 2 → ⊥) → get_or s at 0 % 32 ≡ info → 24 ≤ info → info < 28 → width info ≡ 2 * half → half ≤ 4
    → ((n : ℕ) → 256 ^ half ≤ n → n < 256 ^ (2 * half) → shortest n ≡ info) → Halved s at half
halved s at info half o e low high twice most told = record {
  other = o;
  wide = rw e low;
  known = rw e high;
  twice = rw e twice;
  most = most;
  told = λ n a b. told n a b ∙ sym e;
}

module _ (s : List ℕ) (at : ℕ) (o : get_or s at 0 / 32 ≡ 2 → ⊥) where
  two : get_or s at 0 % 32 ≡ 25 → Halved s at 1
  unfolding width shortest
  two e = halved s at 25 1 o e (omega arith) (omega arith) refl (omega arith) (λ n a b. rw (le-ltb n 24 (omega arith), le-ltb n 256 (omega arith), lt-ltb n 65536 (omega arith)))

  four : get_or s at 0 % 32 ≡ 26 → Halved s at 2
  unfolding width shortest
  four e =
      halved s at 26 2 o e (omega arith) (omega arith) refl (omega arith)
      (λ n a b. rw (le-ltb n 24 (omega arith), le-ltb n 256 (omega arith), le-ltb n 65536 (omega arith), lt-ltb n 4294967296 (omega arith)))

  eight : get_or s at 0 % 32 ≡ 27 → Halved s at 4
  unfolding width shortest
  eight e =
      halved s at 27 4 o e (omega arith) (omega arith) refl (omega arith)
      (λ n a b. rw (le-ltb n 24 (omega arith), le-ltb n 256 (omega arith), le-ltb n 65536 (omega arith), le-ltb n 4294967296 (omega arith)))

pub skip_half-requires : goal.skip_half-requires
skip_half-requires c = (c.requires, two _ _ c.if-b-eq2.false c.in-25.is)

pub skip_half-requires-in-26 : goal.skip_half-requires-in-26
skip_half-requires-in-26 c = (c.requires, four _ _ c.if-b-eq2.false c.in-26.is)

pub skip_half-requires-in-27 : goal.skip_half-requires-in-27
skip_half-requires-in-27 c = (c.requires, eight _ _ c.if-b-eq2.false c.in-27.is)
