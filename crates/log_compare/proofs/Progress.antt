-- Every step of a comparison takes a byte, where something is at hand of both logs or they are at their ends. Assumes nothing.
use Rattle.std.proofs.Common.{◌≡◌, ℕ, zero, suc, ◌+◌, ◌-◌, ◌<◌, min, Bool, true, false, ◌&&◌, eqb, leb, ◌⊎◌, List, ◌++◌, length, drop, sym, refl, ◌∙◌, inl, inr, ⊎_elim, append-nil, arith, length-append, eq-eqb, le-leb, leb-true}
use mathlib.Core.Bool.{false≢true, and-eq-true_iff}
use Rattle.logs.specs.Logs.{is_whole}
use Rattle.log_compare.specs.Partial.{UnderWay}
use Rattle.log_compare.specs.Steps.{Standing, Stepped, moved, both_begin, first_begins, second_begins, heads_wait, bodies_go_on, bodies_pass}
use Rattle.log_compare.specs.Steps.{is_between, is_alike, is_over, step_of}
use Rattle.log_compare.specs.Laws.{is_rest, AtHand, Moves}
use Rattle.log_compare.proofs.Sides.{some-head, later, rest-later}
use Rattle.log_compare.proofs.Comparison.{rest-first, rest-second, short-first, short-second}
use Rattle.log_compare.proofs.Cases.{Between, Waits, over, alike-lefts, by-step}

-- ---- one log

module _ (u : UnderWay) (s s' : List ℕ) (is_last : Bool) (h : AtHand u s s' is_last) where
  all : is_last ≡ true → s ++ s' ≡ s
  all l = rw (h.last l) (append-nil s)

  -- a byte of a body under way is at hand
  body-byte : 0 < u.left → 0 < length s
  unfolding is_rest
  body-byte l = ⊎_elim at_last (λ k. k) h.some
    where
      at_last : is_last ≡ true → 0 < length s
      at_last k =
          let e = (and-eq-true_iff (leb u.left (length s)) (is_whole 4 (u.head ++ drop u.left s))).0 (rw (all k) at h.rest) in
          omega (arith, leb-true u.left (length s) e.0)

  -- where nothing is at hand of a head, the log is over
  at-end : u.left ≡ 0 → length s ≡ 0 → is_over is_last (u.head ++ s) ≡ true
  unfolding is_over later
  at-end z n = ⊎_elim at_last (λ k. let no : ⊥ = omega arith in absurd no) h.some
    where
      at_last : is_last ≡ true → is_over is_last (u.head ++ s) ≡ true
      at_last k =
          let r : is_rest u s ≡ true = rw (all k) at h.rest in
          let w : is_whole 4 (u.head ++ s) ≡ true = rw z at (sym (rest-later u s z) ∙ r) in
          let e = some-head (u.head ++ s) w (omega (arith, h.short, length-append u.head s)) in
          rw (k, eq-eqb (length (u.head ++ s)) 0 e)

  -- where no byte of a head is taken, it is at hand, or the log is over
  stuck : u.left ≡ 0 → min (5 - length u.head) (length s) ≡ 0 → (leb 6 (length (u.head ++ s)) ≡ true) ⊎ (is_over is_last (u.head ++ s) ≡ true)
  stuck z n = case (length s) refl
    where
      case : (k : ℕ) → length s ≡ k → (leb 6 (length (u.head ++ s)) ≡ true) ⊎ (is_over is_last (u.head ++ s) ≡ true)
      case zero e = inr (at-end z e)
      case (suc k) e = inl (le-leb 6 (length (u.head ++ s)) (omega (arith, length-append u.head s)))

-- ---- a step

abbrev TakesByte : Stepped → Type 0
TakesByte r = 0 < r.first + r.second

not-between : (c : Standing) → is_between c ≡ false → 0 < c.first.left + c.second.left
unfolding is_between
not-between c h = case c.first.left c.second.left h
  where
    case : (m n : ℕ) → eqb m 0 && eqb n 0 ≡ false → 0 < m + n
    case zero zero e = absurd (false≢true (sym e))
    case zero (suc n) e = omega arith
    case (suc m) n e = omega arith

module _ (c : Standing) (a a' : List ℕ) (aLast : Bool) (b b' : List ℕ) (bLast : Bool)
    (x : AtHand c.first a a' aLast) (y : AtHand c.second b b' bLast) (l : 0 < length a + length b) where
  go_on : is_between c ≡ false → is_alike c ≡ true → TakesByte (bodies_go_on c a b)
  unfolding bodies_go_on moved
  go_on h k =
      let e = alike-lefts c k in
      let n = not-between c h in
      let p = body-byte c.first a a' aLast x (omega arith) in
      let q = body-byte c.second b b' bLast y (omega arith) in
      omega arith

  pass : is_between c ≡ false → TakesByte (bodies_pass c a b)
  unfolding bodies_pass moved
  pass h = case c.first.left c.second.left (not-between c h) (body-byte c.first a a' aLast x) (body-byte c.second b b' bLast y)
    where
      case : (m n : ℕ) → 0 < m + n → (0 < m → 0 < length a) → (0 < n → 0 < length b) → 0 < min m (length a) + min n (length b)
      case zero n k p q = let i = q (omega arith) in omega arith
      case (suc m) n k p q = let i = p (omega arith) in omega arith

  -- one of the tests for heads holds, or something is taken
  none : Waits c a aLast b bLast → (leb 6 (length (c.first.head ++ a)) ≡ true) ⊎ (is_over aLast (c.first.head ++ a) ≡ true)
      → (leb 6 (length (c.second.head ++ b)) ≡ true) ⊎ (is_over bLast (c.second.head ++ b) ≡ true) → ⊥
  none w (inl p) (inl q) = false≢true (sym w.both ∙ rw (p, q))
  none w (inl p) (inr q) = false≢true (sym w.first ∙ rw (p, q))
  none w (inr p) (inl q) = false≢true (sym w.second ∙ rw (p, q))
  none w (inr p) (inr q) =
      let i = (over aLast (c.first.head ++ a) p).none in
      let j = (over bLast (c.second.head ++ b) q).none in
      omega (arith, length-append c.first.head a, length-append c.second.head b)

  wait : Between c → Waits c a aLast b bLast → TakesByte (heads_wait c a b)
  unfolding heads_wait moved
  wait z w = case (min (5 - length c.first.head) (length a)) (min (5 - length c.second.head) (length b)) refl refl
    where
      case : (m n : ℕ) → min (5 - length c.first.head) (length a) ≡ m → min (5 - length c.second.head) (length b) ≡ n → 0 < m + n
      case zero zero e f = absurd (none w (stuck c.first a a' aLast x z.first e) (stuck c.second b b' bLast y z.second f))
      case zero (suc n) e f = omega arith
      case (suc m) n e f = omega arith

  both : TakesByte (both_begin c a b)
  unfolding both_begin moved
  both = omega (arith, x.short)

  first : TakesByte (first_begins c a b)
  unfolding first_begins moved
  first = omega (arith, x.short)

  second : TakesByte (second_begins c a b)
  unfolding second_begins moved
  second = omega (arith, y.short)

takes-byte : (c : Standing) (a a' : List ℕ) (aLast : Bool) (b b' : List ℕ) (bLast : Bool)
    → AtHand c.first a a' aLast → AtHand c.second b b' bLast → 0 < length a + length b → TakesByte (step_of c a aLast b bLast)
takes-byte c a a' aLast b b' bLast x y l =
    by-step c a aLast b bLast TakesByte (record {
      both = λ _ _ _. both c a a' aLast b b' bLast x y l;
      first = λ _ _ _. first c a a' aLast b b' bLast x y l;
      second = λ _ _ _. second c a a' aLast b b' bLast x y l;
      wait = wait c a a' aLast b b' bLast x y l;
      go = go_on c a a' aLast b b' bLast x y l;
      pass = λ h _. pass c a a' aLast b b' bLast x y l h;
    })

pub moves : Moves
moves c a a' aLast b b' bLast x y l = record {
  takes = takes-byte c a a' aLast b b' bLast x y l;
  first = sym (rest-first c a a' aLast b b' bLast x.short y.short) ∙ x.rest;
  second = sym (rest-second c a a' aLast b b' bLast x.short y.short) ∙ y.rest;
  first_short = short-first c a a' aLast b b' bLast x.short y.short;
  second_short = short-second c a a' aLast b b' bLast x.short y.short;
}
