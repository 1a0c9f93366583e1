-- `vectors::line::store`: a high half is stored with an empty low half behind it, and a low half keeps the high one. Assumes nothing.
use borrow.Author.Tests.{eqb-true, eqb-false}
use Rattle.std.proofs.Common.{◌≡◌, ℕ, ◌+◌, ◌*◌, ◌/◌, ◌%◌, ◌<◌, Bool, true, false, eqb, List, length, get_or, set, refl, arith, get_or-set_same, get_or-set_other}
use Rattle.vectors.specs.Digits.{digit_at, Stored}
use Rattle.vectors.proofs.line.store.Goals as goal

-- a byte is changed: the digits of other bytes are as they were
other : (l : List ℕ) (i v j : ℕ) → (j / 2 ≡ i → ⊥) → digit_at (set l i v) j ≡ digit_at l j
unfolding digit_at
other l i v j h = rw (get_or-set_other l i (j / 2) v 0 h)

high : (l : List ℕ) (d k : ℕ) → k % 2 ≡ 0 → k / 2 < length l → Stored d k l (set l (k / 2) (d * 16))
unfolding digit_at
high l d k e h = record {
  here = rw (e, get_or-set_same l (k / 2) (d * 16) 0 h) (omega arith);
  before_it = λ j b. other l (k / 2) (d * 16) j (λ q. omega arith);
}

-- the digit just before a low half is the high half of the same byte
same_byte : (l : List ℕ) (k v j : ℕ) (t : Bool) → eqb (j / 2) (k / 2) ≡ t → k % 2 ≡ 1 → k / 2 < length l → j < k
    → v / 16 ≡ get_or l (k / 2) 0 / 16 → digit_at (set l (k / 2) v) j ≡ digit_at l j
unfolding digit_at
same_byte l k v j false t e h b q = other l (k / 2) v j (eqb-false _ _ t)
same_byte l k v j true t e h b q =
    let s : j / 2 ≡ k / 2 = eqb-true _ _ t in
    let z : j % 2 ≡ 0 = omega arith in
    rw (z, s, get_or-set_same l (k / 2) v 0 h) q

low : (l : List ℕ) (d k v : ℕ) → k % 2 ≡ 1 → k / 2 < length l → d < 16 → v ≡ get_or l (k / 2) 0 / 16 * 16 + d → Stored d k l (set l (k / 2) v)
unfolding digit_at
low l d k v e h s q = record {
  here = rw (e, get_or-set_same l (k / 2) v 0 h) (omega arith);
  before_it = λ j b. same_byte l k v j (eqb (j / 2) (k / 2)) refl e h b (omega arith);
}

pub returns-then-k-eq0 : goal.returns-then-k-eq0
returns-then-k-eq0 c = high c.args.item.now c.args.d c.args.k c.if-k-eq0.true (omega arith)

pub returns-else-k-eq0 : goal.returns-else-k-eq0
returns-else-k-eq0 c = low c.args.item.now c.args.d c.args.k _ (omega arith) (omega arith) (omega arith) refl
