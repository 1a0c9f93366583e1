-- The steps of a comparison, to the ends of both logs: if no record is under way then, the logs were whole, and the steps said what differs; and
-- whole logs come to such an end. Assumes nothing.
use Rattle.std.proofs.Common.{◌≡◌, ℕ, suc, ◌+◌, ◌-◌, ◌^◌, ◌<◌, ◌≤◌, min, Bool, true, false, cond, not, ◌&&◌, eqb, leb, List, [], ◌∷◌, ◌++◌, length, get_or, take, drop, sym, refl, ap, ◌∙◌, append-nil, arith, length-append, length-take-le, take_all, take-add, eq-eqb, eqb-true, leb-true}
use mathlib.Core.Bool.{and-true, and-false, and-eq-true_iff}
use borrow.Author.Tests.{eqb-false}
use lib.Seq.{drop-nil, take-append-le, drop-append-le}
use Rattle.keys.specs.Keys.{equal}
use Rattle.keys.proofs.Equal.{equal-true}
use Rattle.logs.specs.Logs.{log_of, claimed, records_from, records, whole_length, is_whole}
use Rattle.log_compare.specs.Entries.{content, same, entries_from, entries_of}
use Rattle.log_compare.specs.Partial.{UnderWay, nothing, is_none, takes, under_way}
use Rattle.log_compare.specs.Steps.{Standing, Stepped, fresh, standing, moved, next_number, is_alike, step_of, is_end}
use Rattle.log_compare.specs.Steps.{both_begin, first_begins, second_begins, heads_wait, bodies_go_on, bodies_pass}
use Rattle.log_compare.specs.Laws.{said_of, Steps, done, step, SaysAll, EndsWhole, is_rest}
use Rattle.log_compare.specs.declared.Entry.{Entry}
use Rattle.log_compare.specs.declared.Entry.TheVariants.{Both}
use Rattle.std.specs.Prelude.{None, Some}
use Rattle.log_compare.proofs.Sides.{some-head, later, rest-later, body-taken, head-held, later-body, later-held, less-left, begins}
use Rattle.log_compare.proofs.Sides.{Taken, take-body, take_head, take_whole, rest-on, short_on, no_more}
use Rattle.log_compare.proofs.Cases.{Between, Over, alike-lefts, by-step}

-- ---- what a step takes of each log

pub record Takes (c : Standing) (a b : List ℕ) (r : Stepped) : Type 0 where
  pub first : Taken c.first a r.state.first r.first
  pub second : Taken c.second b r.state.second r.second

module _ (c : Standing) (a b : List ℕ) where
  takes-go : is_alike c ≡ true → Takes c a b (bodies_go_on c a b)
  unfolding bodies_go_on moved
  takes-go h =
      let e = alike-lefts c h in
      let k = min c.first.left (min (length a) (length b)) in
      record { first = take-body c.first k a (omega arith) (omega arith); second = take-body c.second k b (omega arith) (omega arith) }

  takes-pass : Takes c a b (bodies_pass c a b)
  unfolding bodies_pass moved
  takes-pass = record {
    first = take-body c.first (min c.first.left (length a)) a (omega arith) (omega arith);
    second = take-body c.second (min c.second.left (length b)) b (omega arith) (omega arith);
  }

  takes-wait : Between c → Takes c a b (heads_wait c a b)
  unfolding heads_wait moved
  takes-wait z = record {
    first = take_head c.first (min (5 - length c.first.head) (length a)) a (omega arith) z.first (omega arith);
    second = take_head c.second (min (5 - length c.second.head) (length b)) b (omega arith) z.second (omega arith);
  }

  takes-both : Between c → 6 ≤ length (c.first.head ++ a) → 6 ≤ length (c.second.head ++ b) → Takes c a b (both_begin c a b)
  unfolding both_begin moved
  takes-both z h k = record { first = take_whole c.first a z.first h; second = take_whole c.second b z.second k }

  takes_first : Between c → 6 ≤ length (c.first.head ++ a) → Takes c a b (first_begins c a b)
  unfolding first_begins moved
  takes_first z h = record {
    first = take_whole c.first a z.first h;
    second = take_head c.second 0 b (omega arith) z.second (omega arith);
  }

  takes-second : Between c → 6 ≤ length (c.second.head ++ b) → Takes c a b (second_begins c a b)
  unfolding second_begins moved
  takes-second z k = record {
    first = take_head c.first 0 a (omega arith) z.first (omega arith);
    second = take_whole c.second b z.second k;
  }

  pub step-takes : (aLast bLast : Bool) → Takes c a b (step_of c a aLast b bLast)
  step-takes aLast bLast = by-step c a aLast b bLast (Takes c a b) (record {
    both = takes-both;
    first = λ z h _. takes_first z h;
    second = λ z _ k. takes-second z k;
    wait = λ z _. takes-wait z;
    go = λ _ h. takes-go h;
    pass = λ _ _. takes-pass;
  })

-- ---- the number, with the bytes that are left and those held, does not grow: a record that begins takes a byte

abbrev bytes_and_number : Standing → List ℕ → List ℕ → ℕ
bytes_and_number c a b = c.number + (length c.first.head + length a) + (length c.second.head + length b)

module _ (c : Standing) (a a' b b' : List ℕ) (short : length c.first.head < 6) (short' : length c.second.head < 6) where
  abbrev NoMore : Stepped → Type 0
  NoMore r = bytes_and_number r.state (drop r.first a ++ a') (drop r.second b ++ b') ≤ bytes_and_number c (a ++ a') (b ++ b')

  number-stays : (r : Stepped) → Takes c a b r → r.state.number ≡ c.number → NoMore r
  number-stays r t n =
      let x = no_more c.first a a' r.state.first r.first short t.first in
      let y = no_more c.second b b' r.state.second r.second short' t.second in
      omega arith

  wait-stays : Between c → NoMore (heads_wait c a b)
  unfolding heads_wait moved
  wait-stays z = number-stays (heads_wait c a b) (takes-wait c a b z) refl

  go-stays : is_alike c ≡ true → NoMore (bodies_go_on c a b)
  unfolding bodies_go_on moved
  go-stays h = number-stays (bodies_go_on c a b) (takes-go c a b h) refl

  pass-stays : NoMore (bodies_pass c a b)
  unfolding bodies_pass moved
  pass-stays = number-stays (bodies_pass c a b) (takes-pass c a b) refl

  both-less : Between c → 6 ≤ length (c.first.head ++ a) → 6 ≤ length (c.second.head ++ b) → NoMore (both_begin c a b)
  unfolding both_begin moved
  both-less z h k = omega (arith, less-left c.first a a' short z.first h, less-left c.second b b' short' z.second k)

  first-less : Between c → 6 ≤ length (c.first.head ++ a) → NoMore (first_begins c a b)
  unfolding first_begins moved
  first-less z h =
      let y = no_more c.second b b' (takes c.second []) 0 short' (takes_first c a b z h).second in
      omega (arith, less-left c.first a a' short z.first h)

  second-less : Between c → 6 ≤ length (c.second.head ++ b) → NoMore (second_begins c a b)
  unfolding second_begins moved
  second-less z k =
      let x = no_more c.first a a' (takes c.first []) 0 short (takes-second c a b z k).first in
      omega (arith, less-left c.second b b' short' z.second k)

  step-within : (aLast bLast : Bool) → NoMore (step_of c a aLast b bLast)
  step-within aLast bLast = by-step c a aLast b bLast NoMore (record {
    both = both-less;
    first = λ z h _. first-less z h;
    second = λ z _ k. second-less z k;
    wait = λ z _. wait-stays z;
    go = λ _ h. go-stays h;
    pass = λ _ _. pass-stays;
  })

-- ---- what is still to be said, where a and b are left of the logs: of the bodies under way, and of the records that follow

pending : Standing → List ℕ → List ℕ → List Entry
pending c a b =
    cond (is_alike c && not (equal (take c.first.left a) (take c.second.left b))) (Both c.number c.length c.length ∷ []) []

following : Standing → List ℕ → List ℕ → List Entry
following c a b = entries_from (suc c.number) (records 4 (later c.first a)) (records 4 (later c.second b))

abbrev to_say : Standing → List ℕ → List ℕ → List Entry
to_say c a b = pending c a b ++ following c a b

-- nothing is to be said of bodies that are known to differ, or that are at their ends
not_alike : (c : Standing) (a b : List ℕ) → is_alike c ≡ false → pending c a b ≡ []
unfolding pending
not_alike c a b h = rw h

at_heads : (c : Standing) (a b : List ℕ) → c.first.left ≡ 0 → c.second.left ≡ 0 → pending c a b ≡ []
unfolding pending equal
at_heads c a b z y = rw (z, y, and-false)

-- ---- bytes

other_length : (x y : List ℕ) → (length x ≡ length y → ⊥) → equal x y ≡ false
other_length x y n = case (equal x y) refl
  where
    case : (t : Bool) → equal x y ≡ t → t ≡ false
    case true e = absurd (n (ap length (equal-true x y e)))
    case false e = refl

-- lists are equal if their parts of one length are
equal_append : (x y s t : List ℕ) → length x ≡ length y → equal (x ++ s) (y ++ t) ≡ equal x y && equal s t
unfolding equal
equal_append [] [] s t e = refl
equal_append [] (b ∷ y) s t e = let no : ⊥ = omega arith in absurd no
equal_append (a ∷ x) [] s t e = let no : ⊥ = omega arith in absurd no
equal_append (a ∷ x) (b ∷ y) s t e = case (eqb a b) (equal_append x y s t (omega arith))
  where
    case : (z : Bool) → equal (x ++ s) (y ++ t) ≡ equal x y && equal s t → z && equal (x ++ s) (y ++ t) ≡ (z && equal x y) && equal s t
    case true h = h
    case false h = refl

split : (left k : ℕ) (s s' : List ℕ) → k ≤ left → k ≤ length s → take left (s ++ s') ≡ take k s ++ take (left - k) (drop k s ++ s')
split left k s s' l h =
    let e : left ≡ k + (left - k) = omega arith in
    ap (λ (n : ℕ). take n (s ++ s')) e ∙ take-add k (left - k) (s ++ s') ∙ rw (take-append-le k s s' h, drop-append-le k s s' h)

-- ---- what a step keeps: what it says, and what is then to be said, was to be said

abbrev Kept : Standing → (a a' b b' : List ℕ) → Stepped → Type 0
Kept c a a' b b' r =
    to_say c (a ++ a') (b ++ b') ≡ said_of r.said ++ to_say r.state (drop r.first a ++ a') (drop r.second b ++ b')

-- the entry of two bodies under way, whose next parts are equal or not
go-entry : (e t : Bool) (l : Entry) (d : List Entry)
    → cond (not (e && t)) (l ∷ []) [] ++ d ≡ said_of (cond e None (Some l)) ++ (cond (e && not t) (l ∷ []) [] ++ d)
unfolding said_of
go-entry true t l d = refl
go-entry false t l d = refl

-- the entry of two records that begin
begin_entry : (low high : Bool) (x y : List ℕ) (n i j : ℕ) (d : List Entry) → length x ≡ i → length y ≡ j
    → cond (low && (high && equal x y)) [] (Both n i j ∷ []) ++ d
    ≡ said_of (cond ((low && high) && eqb i j) None (Some (Both n i j)))
    ++ (cond ((((low && high) && eqb i j) && eqb i j) && not (equal x y)) (Both n i i ∷ []) [] ++ d)
unfolding said_of
begin_entry false high x y n i j d p q = refl
begin_entry true false x y n i j d p q = refl
begin_entry true true x y n i j d p q = lengths (eqb i j) refl
  where
    bodies : (t : Bool) → i ≡ j → cond t [] (Both n i j ∷ []) ++ d ≡ cond (not t) (Both n i i ∷ []) [] ++ d
    bodies true s = refl
    bodies false s = rw s

    lengths : (t : Bool) → eqb i j ≡ t → cond (equal x y) [] (Both n i j ∷ []) ++ d
        ≡ said_of (cond t None (Some (Both n i j))) ++ (cond ((t && t) && not (equal x y)) (Both n i i ∷ []) [] ++ d)
    lengths true e = bodies (equal x y) (eqb-true i j e)
    lengths false e = rw (other_length x y (λ k. eqb-false i j e (sym p ∙ k ∙ q)))

module _ (c : Standing) (a a' b b' : List ℕ) (short : length c.first.head < 6) (short' : length c.second.head < 6) where
  kept-wait : Between c → Kept c a a' b b' (heads_wait c a b)
  unfolding heads_wait moved following said_of
  kept-wait z =
      let j = min (5 - length c.first.head) (length a) in
      let k = min (5 - length c.second.head) (length b) in
      let h : j ≤ length a = omega arith in
      let i : k ≤ length b = omega arith in
      let l : length c.first.head + j < 6 = omega arith in
      let m : length c.second.head + k < 6 = omega arith in
      let r = heads_wait c a b in
      rw (at_heads c (a ++ a') (b ++ b') z.first z.second)
      (rw (at_heads r.state (drop j a ++ a') (drop k b ++ b')
      (ap (λ (v : UnderWay). v.left) (head-held c.first j a short h z.first l))
      (ap (λ (v : UnderWay). v.left) (head-held c.second k b short' i z.second m)))
      (rw (later-held c.first j a a' short h z.first l, later-held c.second k b b' short' i z.second m)))

  kept-pass : is_alike c ≡ false → Kept c a a' b b' (bodies_pass c a b)
  unfolding bodies_pass moved following said_of is_alike
  kept-pass h =
      let j = min c.first.left (length a) in
      let k = min c.second.left (length b) in
      let r = bodies_pass c a b in
      rw (not_alike c (a ++ a') (b ++ b') h)
      (rw (not_alike r.state (drop j a ++ a') (drop k b ++ b') refl)
      (rw (later-body c.first j a a' short (omega arith) (omega arith), later-body c.second k b b' short' (omega arith) (omega arith))))

  -- bodies that go on: k bytes of both are compared
  module _ (h : is_alike c ≡ true) (k : ℕ) (i : k ≤ length a) (j : k ≤ length b) (f : k ≤ c.first.left) (g : k ≤ c.second.left) where
    abbrev equal_parts : Bool
    equal_parts = equal (take k a) (take k b)

    abbrev equal_rests : Bool
    equal_rests = equal (take (c.first.left - k) (drop k a ++ a')) (take (c.second.left - k) (drop k b ++ b'))

    abbrev gone : Standing
    gone = record {
      number = c.number;
      length = c.length;
      alike = equal_parts;
      first = takes c.first (take k a);
      second = takes c.second (take k b);
    }

    abbrev entry : Entry
    entry = Both c.number c.length c.length

    pending-before : pending c (a ++ a') (b ++ b') ≡ cond (not (equal_parts && equal_rests)) (entry ∷ []) []
    unfolding pending
    pending-before =
        rw (
          h,
          split c.first.left k a a' f i,
          split c.second.left k b b' g j,
          equal_append (take k a) (take k b) _ _ (length-take-le k a i ∙ sym (length-take-le k b j)),
        )

    pending_then : pending gone (drop k a ++ a') (drop k b ++ b') ≡ cond (equal_parts && not equal_rests) (entry ∷ []) []
    unfolding pending is_alike
    pending_then =
        rw (
          body-taken c.first k a short i f,
          body-taken c.second k b short' j g,
          eq-eqb (c.first.left - k) (c.second.left - k) (ap (λ (n : ℕ). n - k) (alike-lefts c h)),
          and-true equal_parts,
        )

    following-same : following c (a ++ a') (b ++ b') ≡ following gone (drop k a ++ a') (drop k b ++ b')
    unfolding following
    following-same = rw (later-body c.first k a a' short i f, later-body c.second k b b' short' j g)

    go-says : to_say c (a ++ a') (b ++ b') ≡ said_of (cond equal_parts None (Some entry)) ++ to_say gone (drop k a ++ a') (drop k b ++ b')
    go-says = rw (pending-before, pending_then, following-same) (go-entry equal_parts equal_rests entry _)

  kept-go : is_alike c ≡ true → Kept c a a' b b' (bodies_go_on c a b)
  unfolding bodies_go_on moved
  kept-go h =
      let e = alike-lefts c h in
      let k = min c.first.left (min (length a) (length b)) in
      go-says h k (omega arith) (omega arith) (omega arith) (omega arith)

  -- a record begins: its number is the next one
  module _ (bound : bytes_and_number c (a ++ a') (b ++ b') < 2 ^ 64)
      (x : is_rest c.first (a ++ a') ≡ true) (y : is_rest c.second (b ++ b') ≡ true) where
    next-first : 6 ≤ length (c.first.head ++ a) → next_number c a b ≡ suc c.number
    next-first h = omega (arith, length-append c.first.head a, length-append a a')

    next-second : 6 ≤ length (c.second.head ++ b) → next_number c a b ≡ suc c.number
    next-second k = omega (arith, length-append c.second.head b, length-append b b')

    kept-both : Between c → 6 ≤ length (c.first.head ++ a) → 6 ≤ length (c.second.head ++ b) → Kept c a a' b b' (both_begin c a b)
    unfolding both_begin moved pending following later is_alike entries_from same content equal
    kept-both z h k =
        let front = c.first.head ++ a in
        let front' = c.second.head ++ b in
        let rest = drop (6 - length c.first.head) a ++ a' in
        let rest' = drop (6 - length c.second.head) b ++ b' in
        let i = claimed 4 front in
        let j = claimed 4 front' in
        let p = begins c.first a a' short z.first h x in
        let q = begins c.second b b' short' z.second k y in
        let n = next-first h in
        rw (at_heads c (a ++ a') (b ++ b') z.first z.second)
        (rw (n, p.is, q.is, p.state, q.state, p.low, p.high, q.low, q.high, p.long, q.long, p.body, q.body)
        (begin_entry (eqb (get_or front 4 0) (get_or front' 4 0)) (eqb (get_or front 5 0) (get_or front' 5 0)) (take i rest) (take j rest')
        (suc c.number) i j (entries_from (suc (suc c.number)) (records 4 (drop i rest)) (records 4 (drop j rest')))
        (ap length (sym p.body) ∙ p.long) (ap length (sym q.body) ∙ q.long)))

    kept-first : Between c → 6 ≤ length (c.first.head ++ a) → later c.second (b ++ b') ≡ [] → Kept c a a' b b' (first_begins c a b)
    unfolding first_begins moved pending following later is_alike entries_from said_of records_from
    kept-first z h e =
        let p = begins c.first a a' short z.first h x in
        let n = next-first h in
        let f = later-held c.second 0 b b' short' (omega arith) z.second (omega arith) in
        rw (at_heads c (a ++ a') (b ++ b') z.first z.second) (rw (n, p.is, e, sym f ∙ e, p.state, p.long))

    kept_second : Between c → later c.first (a ++ a') ≡ [] → 6 ≤ length (c.second.head ++ b) → Kept c a a' b b' (second_begins c a b)
    unfolding second_begins moved pending following later is_alike entries_from said_of records_from
    kept_second z e k =
        let q = begins c.second b b' short' z.second k y in
        let n = next-second k in
        let f = later-held c.first 0 a a' short (omega arith) z.first (omega arith) in
        rw (at_heads c (a ++ a') (b ++ b') z.first z.second) (rw (n, q.is, e, sym f ∙ e, q.state, q.long))

-- a log of which nothing more comes
none-later : (u : UnderWay) (s s' : List ℕ) (is_last : Bool) → u.left ≡ 0 → Over is_last (u.head ++ s) → (is_last ≡ true → s' ≡ [])
    → later u (s ++ s') ≡ []
unfolding later
none-later u s s' is_last z o f = rw (z, f o.last, append-nil s) (sym (take_all 0 (u.head ++ s) (omega arith)))

module _ (c : Standing) (a a' : List ℕ) (aLast : Bool) (b b' : List ℕ) (bLast : Bool) (f : aLast ≡ true → a' ≡ []) (g : bLast ≡ true → b' ≡ [])
    (short : length c.first.head < 6) (short' : length c.second.head < 6) (bound : bytes_and_number c (a ++ a') (b ++ b') < 2 ^ 64)
    (x : is_rest c.first (a ++ a') ≡ true) (y : is_rest c.second (b ++ b') ≡ true) where
  kept : Kept c a a' b b' (step_of c a aLast b bLast)
  kept = by-step c a aLast b bLast (Kept c a a' b b') (record {
    both = kept-both c a a' b b' short short' bound x y;
    first = λ z h o. kept-first c a a' b b' short short' bound x y z h (none-later c.second b b' bLast z.second o g);
    second = λ z o k. kept_second c a a' b b' short short' bound x y z (none-later c.first a a' aLast z.first o f) k;
    wait = λ z _. kept-wait c a a' b b' short short' z;
    go = λ _ h. kept-go c a a' b b' short short' h;
    pass = λ _ h. kept-pass c a a' b b' short short' h;
  })

-- ---- the ends

whole-none : is_whole 4 [] ≡ true
unfolding is_whole whole_length log_of records_from
whole-none = refl

record AtEnd (u : UnderWay) : Type 0 where
  left : u.left ≡ 0
  behind : later u [] ≡ []
  rest : is_rest u [] ≡ true

none : (u : UnderWay) → is_none u ≡ true → AtEnd u
unfolding is_none later
none u h =
    let e = (and-eq-true_iff (eqb u.left 0) (eqb (length u.head) 0)).0 h in
    let z = eqb-true u.left 0 e.0 in
    let l : later u [] ≡ [] = rw (z, append-nil u.head) (sym (take_all 0 u.head (omega (arith, eqb-true (length u.head) 0 e.1)))) in
    record { left = z; behind = l; rest = rest-later u [] z ∙ rw l whole-none }

is-none : (u : UnderWay) → length u.head < 6 → is_rest u [] ≡ true → is_none u ≡ true
unfolding is_none is_rest
is-none u short h =
    let e = (and-eq-true_iff (leb u.left 0) (is_whole 4 (u.head ++ drop u.left []))).0 h in
    let w : is_whole 4 u.head ≡ true = rw (drop-nil u.left, append-nil u.head) at e.1 in
    rw (eq-eqb u.left 0 (omega (arith, leb-true u.left 0 e.0)), eq-eqb (length u.head) 0 (some-head u.head w short))

rest_end : (c : Standing) → length c.first.head < 6 → length c.second.head < 6
    → is_rest c.first [] ≡ true → is_rest c.second [] ≡ true → is_end c ≡ true
unfolding is_end
rest_end c x y v w = rw (is-none c.first x v, is-none c.second y w)

record Told (c : Standing) (a b : List ℕ) (es : List Entry) : Type 0 where
  first : is_rest c.first a ≡ true
  second : is_rest c.second b ≡ true
  said : es ≡ to_say c a b

told-end : (c : Standing) → is_end c ≡ true → Told c [] [] []
unfolding is_end following entries_from records_from
told-end c h =
    let e = (and-eq-true_iff (is_none c.first) (is_none c.second)).0 h in
    let x = none c.first e.0 in
    let y = none c.second e.1 in
    record { first = x.rest; second = y.rest; said = rw (at_heads c [] [] x.left y.left, x.behind, y.behind) }

module _ (c : Standing) (a a' : List ℕ) (aLast : Bool) (b b' : List ℕ) (bLast : Bool)
    (short : length c.first.head < 6) (short' : length c.second.head < 6) where
  abbrev r : Stepped
  r = step_of c a aLast b bLast

  abbrev t : Takes c a b r
  t = step-takes c a b aLast bLast

  pub rest-first : is_rest c.first (a ++ a') ≡ is_rest r.state.first (drop r.first a ++ a')
  rest-first = rest-on c.first a a' r.state.first r.first short t.first

  pub rest-second : is_rest c.second (b ++ b') ≡ is_rest r.state.second (drop r.second b ++ b')
  rest-second = rest-on c.second b b' r.state.second r.second short' t.second

  pub short-first : length r.state.first.head < 6
  short-first = short_on c.first a a' r.state.first r.first short t.first

  pub short-second : length r.state.second.head < 6
  short-second = short_on c.second b b' r.state.second r.second short' t.second

  still-bound : bytes_and_number c (a ++ a') (b ++ b') < 2 ^ 64
      → bytes_and_number r.state (drop r.first a ++ a') (drop r.second b ++ b') < 2 ^ 64
  still-bound n = omega (arith, step-within c a a' b b' short short' aLast bLast)

  told-step : {es : List Entry} → (aLast ≡ true → a' ≡ []) → (bLast ≡ true → b' ≡ []) → bytes_and_number c (a ++ a') (b ++ b') < 2 ^ 64
      → Told r.state (drop r.first a ++ a') (drop r.second b ++ b') es → Told c (a ++ a') (b ++ b') (said_of r.said ++ es)
  told-step f g bound next =
      let x = rest-first ∙ next.first in
      let y = rest-second ∙ next.second in
      record {
        first = x;
        second = y;
        said = ap (λ (l : List Entry). said_of r.said ++ l) next.said ∙ sym (kept c a a' aLast b b' bLast f g short short' bound x y);
      }

told : {c d : Standing} {a b : List ℕ} {es : List Entry} → length c.first.head < 6 → length c.second.head < 6 → bytes_and_number c a b < 2 ^ 64
    → Steps c a b es d → is_end d ≡ true → Told c a b es
told x y n (done c) e = told-end c e
told x y n (step c a a' aLast b b' bLast f g next) e =
    told-step c a a' aLast b b' bLast x y f g n
    (told (short-first c a a' aLast b b' bLast x y) (short-second c a a' aLast b b' bLast x y) (still-bound c a a' aLast b b' bLast x y n) next e)

ended : {c d : Standing} {a b : List ℕ} {es : List Entry} → length c.first.head < 6 → length c.second.head < 6
    → is_rest c.first a ≡ true → is_rest c.second b ≡ true → Steps c a b es d → is_end d ≡ true
ended x y v w (done c) = rest_end c x y v w
ended x y v w (step c a a' aLast b b' bLast f g next) =
    ended (short-first c a a' aLast b b' bLast x y) (short-second c a a' aLast b b' bLast x y) (sym (rest-first c a a' aLast b b' bLast x y) ∙ v)
    (sym (rest-second c a a' aLast b b' bLast x y) ∙ w) next

-- before the first byte
pub rest-fresh : (s : List ℕ) → is_rest nothing s ≡ is_whole 4 s
unfolding later
rest-fresh s = rest-later nothing s refl

pub says_all : SaysAll
unfolding standing under_way pending following later is_alike entries_of
says_all a b es d n r e =
    let t = told {c = standing fresh} (omega arith) (omega arith) (omega arith) r e in
    record { first = sym (rest-fresh a) ∙ t.first; second = sym (rest-fresh b) ∙ t.second; said = t.said }

pub ends-whole : EndsWhole
unfolding standing under_way
ends-whole a b es d h k r = ended {c = standing fresh} (omega arith) (omega arith) (rest-fresh a ∙ h) (rest-fresh b ∙ k) r
