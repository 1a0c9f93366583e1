-- The cases of a step of a comparison: a claim of every step is proved case by case. Assumes nothing.
use Rattle.std.proofs.Common.{◌≡◌, ℕ, ◌≤◌, Bool, true, false, ◌&&◌, eqb, leb, List, ◌++◌, length, eqb-true, leb-true}
use mathlib.Core.Bool.{and-eq-true_iff}
use Rattle.log_compare.specs.Steps.{Standing, Stepped, both_begin, first_begins, second_begins, heads_wait, bodies_go_on, bodies_pass}
use Rattle.log_compare.specs.Steps.{is_between, is_alike, is_over, heads_of, bodies_of, step_of}
use Rattle.log_compare.proofs.Sides.{by_cond}

module _ (c : Standing) where
  -- no body is under way
  pub record Between : Type 0 where
    pub first : c.first.left ≡ 0
    pub second : c.second.left ≡ 0

  between : is_between c ≡ true → Between
  unfolding is_between
  between h =
      let e = (and-eq-true_iff (eqb c.first.left 0) (eqb c.second.left 0)).0 h in
      record { first = eqb-true c.first.left 0 e.0; second = eqb-true c.second.left 0 e.1 }

  pub alike-lefts : is_alike c ≡ true → c.first.left ≡ c.second.left
  unfolding is_alike
  alike-lefts h = eqb-true c.first.left c.second.left ((and-eq-true_iff c.alike (eqb c.first.left c.second.left)).0 h).1

-- a log of which nothing more comes
pub record Over (is_last : Bool) (s : List ℕ) : Type 0 where
  pub last : is_last ≡ true
  pub none : length s ≡ 0

pub over : (is_last : Bool) (s : List ℕ) → is_over is_last s ≡ true → Over is_last s
unfolding is_over
over is_last s h = let e = (and-eq-true_iff is_last (eqb (length s) 0)).0 h in record { last = e.0; none = eqb-true (length s) 0 e.1 }

module _ (c : Standing) (a : List ℕ) (aLast : Bool) (b : List ℕ) (bLast : Bool) where
  abbrev front : List ℕ
  front = c.first.head ++ a

  abbrev front' : List ℕ
  front' = c.second.head ++ b

  -- the next heads are not at hand
  pub record Waits : Type 0 where
    pub both : leb 6 (length front) && leb 6 (length front') ≡ false
    pub first : leb 6 (length front) && is_over bLast front' ≡ false
    pub second : is_over aLast front && leb 6 (length front') ≡ false

  pub record Cases (P : Stepped → Type 0) : Type 0 where
    pub both : Between c → 6 ≤ length front → 6 ≤ length front' → P (both_begin c a b)
    pub first : Between c → 6 ≤ length front → Over bLast front' → P (first_begins c a b)
    pub second : Between c → Over aLast front → 6 ≤ length front' → P (second_begins c a b)
    pub wait : Between c → Waits → P (heads_wait c a b)
    pub go : is_between c ≡ false → is_alike c ≡ true → P (bodies_go_on c a b)
    pub pass : is_between c ≡ false → is_alike c ≡ false → P (bodies_pass c a b)

  pub by-step : (P : Stepped → Type 0) → Cases P → P (step_of c a aLast b bLast)
  unfolding step_of heads_of bodies_of
  by-step P k =
      by_cond P (is_between c) _ _
      (λ h. let z = between c h in
      by_cond P (leb 6 (length front) && leb 6 (length front')) _ _
      (λ t. let e = (and-eq-true_iff (leb 6 (length front)) (leb 6 (length front'))).0 t in
      k.both z (leb-true 6 (length front) e.0) (leb-true 6 (length front') e.1))
      (λ f. by_cond P (leb 6 (length front) && is_over bLast front') _ _
      (λ t. let e = (and-eq-true_iff (leb 6 (length front)) (is_over bLast front')).0 t in
      k.first z (leb-true 6 (length front) e.0) (over bLast front' e.1))
      (λ g. by_cond P (is_over aLast front && leb 6 (length front')) _ _
      (λ t. let e = (and-eq-true_iff (is_over aLast front) (leb 6 (length front'))).0 t in
      k.second z (over aLast front e.0) (leb-true 6 (length front') e.1))
      (λ i. k.wait z (record { both = f; first = g; second = i })))))
      (λ h. by_cond P (is_alike c) _ _ (k.go h) (k.pass h))
