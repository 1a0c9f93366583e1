-- The steps of a comparison, as the code takes them and as the definitions say them. Assumes nothing.
use Rattle.std.proofs.Common.{◌≡◌, ℕ, ◌+◌, ◌-◌, ◌%◌, ◌^◌, ◌≤◌, min, Bool, true, false, cond, ◌&&◌, eqb, leb, List, ◌++◌, length, take, refl, ◌∙◌, arith, length-append, length-take-le, leb-true, eq-eqb, ne_eqb}
use Rattle.keys.specs.Keys.{equal}
use Rattle.log_compare.specs.Partial.{UnderWay, head_of, head_in, under_way}
use Rattle.log_compare.specs.Steps.{Standing, lacks, moved, took, one, two, both_begin, first_begins, second_begins, heads_wait, bodies_go_on, bodies_pass, is_between, is_alike, is_over, bodies_of, heads_of, step_of, standing}
use Rattle.log_compare.specs.declared.Head.{Head}
use Rattle.log_compare.specs.declared.Comparing.{Comparing}
use Rattle.log_compare.specs.declared.Entry.{Entry}
use Rattle.log_compare.specs.declared.Entry.TheVariants.{Both, First, Second}
use Rattle.std.specs.Prelude.{Option, None, Some}

-- x and y, as the code makes them, are the first j and k bytes
pub record Taken (s x : List ℕ) (n : ℕ) : Type 0 where
  pub is : x ≡ take n s
  pub within : n ≤ length s

pub taken : {s x : List ℕ} {m n : ℕ} → x ≡ take m s → m ≡ n → n ≤ length s → Taken s x n
taken e f l = record { is = rw f at e; within = l }

swapped : (x y : Bool) → x && y ≡ y && x
swapped true true = refl
swapped true false = refl
swapped false true = refl
swapped false false = refl

module _ (c : Standing) (a b : List ℕ) where
  took-moved : {x y : List ℕ} {j k : ℕ} → Taken a x j → Taken b y k → (number size : ℕ) (alike : Bool) (said : Option Entry)
      → took c x y number size alike said ≡ moved c a b number size alike j k said
  unfolding took moved
  took-moved {j = j} {k = k} p q number size alike said =
      rw (p.is, q.is, length-take-le j a p.within, length-take-le k b q.within)

  -- the number of the record that begins
  abbrev Next : ℕ → Type 0
  Next number = number ≡ (c.number + 1) % 2 ^ 64

  pub both_law : {x y : List ℕ} {number : ℕ} {h g : Head} → Taken a x (lacks c.first) → Taken b y (lacks c.second) → Next number
      → h ≡ head_of (one c a b) → g ≡ head_of (two c a b) → (e : Bool)
      → eqb h.length g.length && (eqb h.low g.low && eqb h.high g.high) ≡ e
      → took c x y number h.length e (cond e None (Some (Both number h.length g.length))) ≡ both_begin c a b
  unfolding both_begin head_of
  both_law {h = h} {g = g} p q n i j e t =
      let u = rw (i, j) at (swapped (eqb h.low g.low && eqb h.high g.high) (eqb h.length g.length) ∙ t) in
      rw (n, i, j, u) (took-moved p q _ _ _ _)

  pub first_law : {x y : List ℕ} {number : ℕ} {h : Head} → Taken a x (lacks c.first) → Taken b y 0 → Next number → h ≡ head_of (one c a b)
      → took c x y number h.length false (Some (First number h.length)) ≡ first_begins c a b
  unfolding first_begins head_of
  first_law p q n i = rw (n, i) (took-moved p q _ _ _ _)

  pub second_law : {x y : List ℕ} {number : ℕ} {h : Head} → Taken a x 0 → Taken b y (lacks c.second) → Next number → h ≡ head_of (two c a b)
      → took c x y number h.length false (Some (Second number h.length)) ≡ second_begins c a b
  unfolding second_begins head_of
  second_law p q n i = rw (n, i) (took-moved p q _ _ _ _)

  pub wait_law : {x y : List ℕ} → Taken a x (min (5 - length c.first.head) (length a)) → Taken b y (min (5 - length c.second.head) (length b))
      → took c x y c.number c.length c.alike None ≡ heads_wait c a b
  unfolding heads_wait
  wait_law p q = took-moved p q _ _ _ _

  pub pass_law : {x y : List ℕ} → Taken a x (min c.first.left (length a)) → Taken b y (min c.second.left (length b))
      → took c x y c.number c.length false None ≡ bodies_pass c a b
  unfolding bodies_pass
  pass_law p q = took-moved p q _ _ _ _

  abbrev compared : ℕ
  compared = min c.first.left (min (length a) (length b))

  pub go_law : {x y : List ℕ} → Taken a x compared → Taken b y compared → (e : Bool) → equal x y ≡ e
      → took c x y c.number c.length e (cond e None (Some (Both c.number c.length c.length))) ≡ bodies_go_on c a b
  unfolding bodies_go_on
  go_law p q e t =
      let same : equal (take compared a) (take compared b) ≡ e = rw (p.is, q.is) at t in
      rw same (took-moved p q _ _ _ _)

  pub are-alike : is_alike c ≡ true → bodies_go_on c a b ≡ bodies_of c a b
  unfolding bodies_of
  are-alike e = rw e

  pub not_alike : is_alike c ≡ false → bodies_pass c a b ≡ bodies_of c a b
  unfolding bodies_of
  not_alike e = rw e

-- ---- which step is taken

-- a head, if it is whole
module _ (s : List ℕ) (r : Option Head) (e : r ≡ head_in s) where
  pub record Whole (h : Head) : Type 0 where
    pub long : leb 6 (length s) ≡ true
    pub is : h ≡ head_of s

  whole-by-test : (t : Bool) (h : Head) → leb 6 (length s) ≡ t → r ≡ cond t (Some (head_of s)) None → r ≡ Some h → Whole h
  whole-by-test true h f e k = record { long = f; is = cc }
  whole-by-test false h f e k = absurd (cc)

  pub whole-head : (h : Head) → r ≡ Some h → Whole h
  unfolding head_in
  whole-head h k = whole-by-test (leb 6 (length s)) h refl e k

  short-by-test : (t : Bool) → leb 6 (length s) ≡ t → r ≡ cond t (Some (head_of s)) None → r ≡ None → leb 6 (length s) ≡ false
  short-by-test true f e k = absurd (cc)
  short-by-test false f e k = f

  pub short-head : r ≡ None → leb 6 (length s) ≡ false
  unfolding head_in
  short-head k = short-by-test (leb 6 (length s)) refl e k

-- then as many bytes are at hand as it lacks
pub enough : (u : UnderWay) (s : List ℕ) → leb 6 (length (u.head ++ s)) ≡ true → lacks u ≤ length s
enough u s e = omega (arith, leb-true 6 (length (u.head ++ s)) e, length-append u.head s)

module _ (c : Standing) (a : List ℕ) (aLast : Bool) (b : List ℕ) (bLast : Bool) where
  module _ (x y : Bool) (p : leb 6 (length (one c a b)) ≡ x) (q : leb 6 (length (two c a b)) ≡ y) where
    pub heads_both : x && y ≡ true → both_begin c a b ≡ heads_of c a aLast b bLast
    unfolding heads_of
    heads_both t = rw (p, q, t)

    pub heads_first : x && y ≡ false → x && is_over bLast (two c a b) ≡ true → first_begins c a b ≡ heads_of c a aLast b bLast
    unfolding heads_of
    heads_first t u = rw (p, q, t, u)

    pub heads_second : x && y ≡ false → x && is_over bLast (two c a b) ≡ false → is_over aLast (one c a b) && y ≡ true
        → second_begins c a b ≡ heads_of c a aLast b bLast
    unfolding heads_of
    heads_second t u v = rw (p, q, t, u, v)

    pub heads_none : x && y ≡ false → x && is_over bLast (two c a b) ≡ false → is_over aLast (one c a b) && y ≡ false
        → heads_wait c a b ≡ heads_of c a aLast b bLast
    unfolding heads_of
    heads_none t u v = rw (p, q, t, u, v)

  pub step_heads : is_between c ≡ true → heads_of c a aLast b bLast ≡ step_of c a aLast b bLast
  unfolding step_of
  step_heads e = rw e

  pub step_bodies : is_between c ≡ false → bodies_of c a b ≡ step_of c a aLast b bLast
  unfolding step_of
  step_bodies e = rw e

-- ---- the code's tests

pub neither : (x : Bool) → x && false ≡ false
neither true = refl
neither false = refl

module _ (p : Comparing) where
  pub alike-is : p.alike ≡ 1 → p.first.left ≡ p.second.left → is_alike (standing p) ≡ true
  unfolding is_alike standing under_way
  alike-is h k = rw (eq-eqb p.alike 1 h, eq-eqb p.first.left p.second.left k)

  pub other-number : (p.alike ≡ 1 → ⊥) → is_alike (standing p) ≡ false
  unfolding is_alike standing under_way
  other-number h = rw (ne_eqb p.alike 1 h)

  pub other-lefts : (p.first.left ≡ p.second.left → ⊥) → is_alike (standing p) ≡ false
  unfolding is_alike standing under_way
  other-lefts h = rw (ne_eqb p.first.left p.second.left h) (neither (eqb p.alike 1))

  pub between-is : p.first.left ≡ 0 → p.second.left ≡ 0 → is_between (standing p) ≡ true
  unfolding is_between standing under_way
  between-is h k = rw (eq-eqb p.first.left 0 h, eq-eqb p.second.left 0 k)

  pub first-body : (p.first.left ≡ 0 → ⊥) → is_between (standing p) ≡ false
  unfolding is_between standing under_way
  first-body h = rw (ne_eqb p.first.left 0 h)

  pub second-body : (p.second.left ≡ 0 → ⊥) → is_between (standing p) ≡ false
  unfolding is_between standing under_way
  second-body h = rw (ne_eqb p.second.left 0 h) (neither (eqb p.first.left 0))
