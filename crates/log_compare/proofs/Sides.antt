-- The record under way in one log, when bytes of the piece at hand are taken: what the state then is, and that the rest of the log stays as whole
-- as it was. Assumes nothing.
use Rattle.std.proofs.Common.{◌≡◌, ℕ, ◌+◌, ◌-◌, ◌<◌, ◌≤◌, Bool, true, false, cond, ◌&&◌, eqb, ltb, leb, List, [], ◌∷◌, ◌++◌, length, get_or, take, drop, sym, refl, ap, ◌∙◌, append_assoc, append-nil, arith, length-append, length-drop, take-append-drop, length-take-le, drop-drop, ltb-false, ltb-true, eq-eqb, ne_eqb, eqb-true, le-leb, leb-false, leb-true}
use mathlib.Core.Bool.{and-eq-true_iff}
use borrow.Author.Tests.{lt-leb, eqb-false}
use lib.Dec.{leb-zero}
use lib.ListN.{get_or-append}
use lib.Seq.{drop-append-le, drop-append-add}
use Rattle.logs.specs.Logs.{Stored, claimed, size, is_there, first_of, records, whole_length, is_whole}
use Rattle.logs.proofs.Walk.{there, not_there, more, body-length}
use Rattle.logs.proofs.Joined.{whole_length_lem, length_more, length_last}
use Rattle.logs.proofs.Pieces.{same_number}
use Rattle.log_compare.specs.Partial.{UnderWay, begun, takes}
use Rattle.log_compare.specs.Scan.{reach_of}
use Rattle.log_compare.specs.Laws.{is_rest}

-- ---- tests

pub by_cond : {A : Type 0} (P : A → Type 0) (t : Bool) (x y : A) → (t ≡ true → P x) → (t ≡ false → P y) → P (cond t x y)
by_cond P true x y f g = f refl
by_cond P false x y f g = g refl

same_test : (m n i k : ℕ) → (m ≡ n → i ≡ k) → (i ≡ k → m ≡ n) → eqb m n ≡ eqb i k
same_test m n i k f g = case (eqb i k) refl
  where
    case : (t : Bool) → eqb i k ≡ t → eqb m n ≡ t
    case true e = eq-eqb m n (g (eqb-true i k e))
    case false e = ne_eqb m n (λ d. eqb-false i k e (f d))

less_of_both : (m n j : ℕ) → j ≤ m → j ≤ n → leb m n ≡ leb (m - j) (n - j)
less_of_both m n j h k = case (leb (m - j) (n - j)) refl
  where
    case : (t : Bool) → leb (m - j) (n - j) ≡ t → leb m n ≡ t
    case true e = le-leb m n (omega (arith, leb-true (m - j) (n - j) e))
    case false e = lt-leb m n (omega (arith, leb-false (m - j) (n - j) e))

-- ---- a log of which a head is there: its record's body is there too, and whole records follow it, or it is not whole

behind-front : (s : List ℕ) → drop (size 4 s) s ≡ drop (claimed 4 s) (drop 6 s)
behind-front s = sym (drop-drop (claimed 4 s) 6 s)

module _ (s : List ℕ) (h : 6 ≤ length s) where
  case-front : (t : Bool) → is_there 4 s ≡ t → is_whole 4 s ≡ leb (claimed 4 s) (length (drop 6 s)) && is_whole 4 (drop (claimed 4 s) (drop 6 s))
  unfolding is_whole
  case-front true e =
      let l = there 4 s e in
      let k = length-drop (size 4 s) s in
      let w = length_more 4 s e in
      rw (le-leb (claimed 4 s) (length (drop 6 s)) (omega (arith, length-drop 6 s)), ← behind-front s)
      (same_test (whole_length 4 s) (length s) (whole_length 4 (drop (size 4 s) s)) (length (drop (size 4 s) s)) (λ d. omega arith) (λ d. omega arith))
  case-front false e =
      rw (lt-leb (claimed 4 s) (length (drop 6 s)) (omega (arith, not_there 4 s e, length-drop 6 s)), length_last 4 s e)
      (ne_eqb 0 (length s) (λ d. omega arith))

  whole-front : is_whole 4 s ≡ leb (claimed 4 s) (length (drop 6 s)) && is_whole 4 (drop (claimed 4 s) (drop 6 s))
  whole-front = case-front (is_there 4 s) refl

  all_there : is_whole 4 s ≡ true → is_there 4 s ≡ true
  unfolding is_there
  all_there w =
      let e = (and-eq-true_iff (leb (claimed 4 s) (length (drop 6 s))) (is_whole 4 (drop (claimed 4 s) (drop 6 s)))).0 (sym whole-front ∙ w) in
      le-leb (size 4 s) (length s) (omega (arith, leb-true (claimed 4 s) (length (drop 6 s)) e.0, length-drop 6 s))

-- ---- a whole log has a head, or nothing

pub some-head : (s : List ℕ) → is_whole 4 s ≡ true → length s < 6 → length s ≡ 0
some-head s w l = case (is_there 4 s) refl
  where
    case : (t : Bool) → is_there 4 s ≡ t → length s ≡ 0
    case true e = omega (arith, there 4 s e)
    case false e = sym (whole_length_lem 4 s w) ∙ length_last 4 s e

-- ---- what is left of a log behind the body under way, with the bytes held in front

unfoldable pub later : UnderWay → List ℕ → List ℕ
later u s = u.head ++ drop u.left s

pub rest-later : (u : UnderWay) (s : List ℕ) → u.left ≡ 0 → is_rest u s ≡ is_whole 4 (later u s)
unfolding is_rest later
rest-later u s z = rw (z, leb-zero (length s))

-- ---- j bytes of the piece s are taken

module _ (u : UnderWay) (j : ℕ) (s : List ℕ) (short : length u.head < 6) (h : j ≤ length s) where
  pub body-taken : j ≤ u.left → takes u (take j s) ≡ record { head = u.head; left = u.left - j }
  unfolding takes begun
  body-taken l = case (ltb 0 u.left) refl
    where
      case : (t : Bool) → ltb 0 u.left ≡ t
          → cond t (record { head = u.head; left = u.left - length (take j s) }) (begun (u.head ++ take j s))
          ≡ record { head = u.head; left = u.left - j }
      case true e = rw (length-take-le j s h)
      case false e =
          let n : j ≡ 0 = omega (arith, ltb-false 0 u.left e) in
          let z : u.left ≡ 0 = omega (arith, ltb-false 0 u.left e) in
          rw (n, z, append-nil u.head, lt-leb 6 (length u.head) short)

  module _ (z : u.left ≡ 0) where
    head-length : length (u.head ++ take j s) ≡ length u.head + j
    head-length = length-append u.head (take j s) ∙ rw (length-take-le j s h)

    pub head-held : length u.head + j < 6 → takes u (take j s) ≡ record { head = u.head ++ take j s; left = 0 }
    unfolding takes begun
    head-held l = rw (z, lt-leb 6 (length (u.head ++ take j s)) (omega (arith, head-length)))

    head-whole : length u.head + j ≡ 6 → takes u (take j s) ≡ record { head = []; left = claimed 4 (u.head ++ s) }
    unfolding takes begun claimed
    head-whole l =
        let p : List ℕ = u.head ++ take j s in
        let e : p ++ drop j s ≡ u.head ++ s = append_assoc u.head (take j s) (drop j s) ∙ rw (take-append-drop j s) in
        let c : claimed 4 (u.head ++ s) ≡ claimed 4 p = rw (← e) (same_number 4 0 p (drop j s) (omega (arith, head-length))) in
        rw (z, le-leb 6 (length p) (omega (arith, head-length)), c)

-- ---- what is left of the log, s and then s', where a body goes on or a head is not whole yet

behind : (left j : ℕ) (s s' : List ℕ) → j ≤ left → j ≤ length s → drop left (s ++ s') ≡ drop (left - j) (drop j s ++ s')
behind left j s s' l h =
    let e : left ≡ j + (left - j) = omega arith in
    ap (λ (n : ℕ). drop n (s ++ s')) e ∙ sym (drop-drop (left - j) j (s ++ s')) ∙ ap (drop (left - j)) (drop-append-le j s s' h)

module _ (u : UnderWay) (j : ℕ) (s s' : List ℕ) (short : length u.head < 6) (h : j ≤ length s) where
  pub later-body : j ≤ u.left → later u (s ++ s') ≡ later (takes u (take j s)) (drop j s ++ s')
  unfolding later
  later-body l = rw (body-taken u j s short h l, behind u.left j s s' l h)

  pub later-held : u.left ≡ 0 → length u.head + j < 6 → later u (s ++ s') ≡ later (takes u (take j s)) (drop j s ++ s')
  unfolding later
  later-held z l =
      let e : take j s ++ (drop j s ++ s') ≡ s ++ s' = sym (append_assoc (take j s) (drop j s) s') ∙ rw (take-append-drop j s) in
      rw (head-held u j s short h z l, z, append_assoc u.head (take j s) (drop j s ++ s'), e)

-- ---- and where a head is whole

module _ (u : UnderWay) (s s' : List ℕ) (short : length u.head < 6) (z : u.left ≡ 0) (h : 6 ≤ length (u.head ++ s)) where
  abbrev front : List ℕ
  front = u.head ++ s

  abbrev lacking : ℕ
  lacking = 6 - length u.head

  later-front : later u (s ++ s') ≡ front ++ s'
  unfolding later
  later-front = rw z (sym (append_assoc u.head s s'))

  front_claim : claimed 4 (front ++ s') ≡ claimed 4 front
  unfolding claimed
  front_claim = same_number 4 0 front s' (omega arith)

  front-behind : drop 6 (front ++ s') ≡ drop lacking s ++ s'
  front-behind =
      let e : 6 ≡ length u.head + lacking = omega arith in
      drop-append-le 6 front s' h ∙ ap (λ (n : ℕ). drop n front ++ s') e ∙ rw (drop-append-add u.head s lacking)

  front-there : lacking ≤ length s
  front-there = omega (arith, length-append u.head s)

  front-taken : takes u (take lacking s) ≡ record { head = []; left = claimed 4 front }
  front-taken = head-whole u lacking s short front-there z (omega arith)

  -- less is left than before, with what is held
  pub less-left : length (takes u (take lacking s)).head + length (drop lacking s ++ s') < length u.head + length (s ++ s')
  less-left = rw front-taken (omega (arith, front-there, length-append (drop lacking s) s', length-drop lacking s, length-append s s'))

  rest-front : is_rest u (s ++ s') ≡ is_rest (takes u (take lacking s)) (drop lacking s ++ s')
  unfolding is_rest
  rest-front =
      rest-later u (s ++ s') z ∙ ap (is_whole 4) later-front ∙ whole-front (front ++ s') (omega (arith, length-append front s'))
      ∙ rw (front_claim, front-behind, front-taken)

-- ---- the rest of the log stays as whole as it was, and a head as short

module _ (u : UnderWay) (j : ℕ) (s s' : List ℕ) (short : length u.head < 6) (h : j ≤ length s) where
  rest-body : j ≤ u.left → is_rest u (s ++ s') ≡ is_rest (takes u (take j s)) (drop j s ++ s')
  unfolding is_rest
  rest-body l =
      let e : length (drop j s ++ s') ≡ length (s ++ s') - j = omega (arith, length-append (drop j s) s', length-append s s', length-drop j s) in
      let f : j ≤ length (s ++ s') = omega (arith, length-append s s') in
      rw (body-taken u j s short h l, behind u.left j s s' l h, e, less_of_both u.left (length (s ++ s')) j l f)

  rest-held : u.left ≡ 0 → length u.head + j < 6 → is_rest u (s ++ s') ≡ is_rest (takes u (take j s)) (drop j s ++ s')
  rest-held z l =
      rest-later u (s ++ s') z ∙ ap (is_whole 4) (later-held u j s s' short h z l)
      ∙ sym (rest-later (takes u (take j s)) (drop j s ++ s') (ap (λ (v : UnderWay). v.left) (head-held u j s short h z l)))

  rest-head : u.left ≡ 0 → length u.head + j ≤ 6 → is_rest u (s ++ s') ≡ is_rest (takes u (take j s)) (drop j s ++ s')
  rest-head z l = case (ltb (length u.head + j) 6) refl
    where
      case : (t : Bool) → ltb (length u.head + j) 6 ≡ t → is_rest u (s ++ s') ≡ is_rest (takes u (take j s)) (drop j s ++ s')
      case true e = rest-held z (ltb-true (length u.head + j) 6 e)
      case false e =
          let f : j ≡ 6 - length u.head = omega (arith, ltb-false (length u.head + j) 6 e) in
          rw f (rest-front u s s' short z (omega (arith, ltb-false (length u.head + j) 6 e, length-append u.head s)))

  rest-same : j ≤ reach_of u → is_rest u (s ++ s') ≡ is_rest (takes u (take j s)) (drop j s ++ s')
  unfolding reach_of
  rest-same l = case (ltb 0 u.left) refl l
    where
      case : (t : Bool) → ltb 0 u.left ≡ t → j ≤ cond t u.left (6 - length u.head)
          → is_rest u (s ++ s') ≡ is_rest (takes u (take j s)) (drop j s ++ s')
      case true e k = rest-body k
      case false e k = rest-head (omega (arith, ltb-false 0 u.left e)) (omega arith)

still-short : (u : UnderWay) (bytes : List ℕ) → length u.head < 6 → length (takes u bytes).head < 6
unfolding takes begun
still-short u bytes short =
    by_cond (λ (v : UnderWay). length v.head < 6) (ltb 0 u.left) _ _ (λ _. short)
    (λ _. by_cond (λ (v : UnderWay). length v.head < 6) (leb 6 (length (u.head ++ bytes))) _ _ (λ _. omega arith)
    (leb-false 6 (length (u.head ++ bytes))))

-- ---- a step takes j bytes of the piece s, and v is then under way

pub record Taken (u : UnderWay) (s : List ℕ) (v : UnderWay) (j : ℕ) : Type 0 where
  pub there : j ≤ length s
  pub reach : j ≤ reach_of u
  pub state : v ≡ takes u (take j s)

pub take-body : (u : UnderWay) (j : ℕ) (s : List ℕ) → j ≤ length s → j ≤ u.left → Taken u s (takes u (take j s)) j
unfolding reach_of
take-body u j s h l = record {
  there = h;
  reach = by_cond (λ (n : ℕ). j ≤ n) (ltb 0 u.left) u.left (6 - length u.head) (λ _. l) (λ e. omega (arith, ltb-false 0 u.left e));
  state = refl;
}

pub take_head : (u : UnderWay) (j : ℕ) (s : List ℕ) → j ≤ length s → u.left ≡ 0 → j ≤ 6 - length u.head → Taken u s (takes u (take j s)) j
unfolding reach_of
take_head u j s h z l = record { there = h; reach = rw z l; state = refl }

pub take_whole : (u : UnderWay) (s : List ℕ) → u.left ≡ 0 → 6 ≤ length (u.head ++ s)
    → Taken u s (takes u (take (6 - length u.head) s)) (6 - length u.head)
take_whole u s z h = take_head u (6 - length u.head) s (omega (arith, length-append u.head s)) z (omega arith)

-- the rest of the log is as whole as it was, the head is short, and no more is left than before, with what is held
module _ (u : UnderWay) (s s' : List ℕ) (v : UnderWay) (j : ℕ) (short : length u.head < 6) (t : Taken u s v j) where
  pub rest-on : is_rest u (s ++ s') ≡ is_rest v (drop j s ++ s')
  rest-on = rw t.state (rest-same u j s s' short t.there t.reach)

  pub short_on : length v.head < 6
  short_on = rw t.state (still-short u (take j s) short)

  abbrev NoMore : UnderWay → Type 0
  NoMore w = length w.head + length (drop j s ++ s') ≤ length u.head + length (s ++ s')

  pub no_more : NoMore v
  unfolding takes begun
  no_more =
      let h = t.there in
      let d = length-drop j s in
      let e = length-append (drop j s) s' in
      let f = length-append s s' in
      rw t.state
      (by_cond NoMore (ltb 0 u.left) _ _ (λ _. omega arith)
      (λ _. by_cond NoMore (leb 6 (length (u.head ++ take j s))) _ _ (λ _. omega arith)
      (λ _. omega (arith, length-append u.head (take j s), length-take-le j s h))))

-- ---- a record begins

pub record Begins (u : UnderWay) (s s' : List ℕ) : Type 0 where
  pub held : Stored
  pub low : held.low ≡ get_or (u.head ++ s) 4 0
  pub high : held.high ≡ get_or (u.head ++ s) 5 0
  pub body : held.body ≡ take (claimed 4 (u.head ++ s)) (drop (6 - length u.head) s ++ s')
  pub long : length held.body ≡ claimed 4 (u.head ++ s)
  pub is : records 4 (later u (s ++ s')) ≡ held ∷ records 4 (drop (claimed 4 (u.head ++ s)) (drop (6 - length u.head) s ++ s'))
  pub state : takes u (take (6 - length u.head) s) ≡ record { head = []; left = claimed 4 (u.head ++ s) }

pub begins : (u : UnderWay) (s s' : List ℕ) → length u.head < 6 → u.left ≡ 0 → 6 ≤ length (u.head ++ s) → is_rest u (s ++ s') ≡ true
    → Begins u s s'
unfolding first_of
begins u s s' short z h r =
    let front : List ℕ = u.head ++ s in
    let all : List ℕ = front ++ s' in
    let rest : List ℕ = drop (6 - length u.head) s ++ s' in
    let c : claimed 4 all ≡ claimed 4 front = front_claim u s s' short z h in
    let d : drop 6 all ≡ rest = front-behind u s s' short z h in
    let w : is_whole 4 all ≡ true = sym (rest-later u (s ++ s') z ∙ ap (is_whole 4) (later-front u s s' short z h)) ∙ r in
    let f : is_there 4 all ≡ true = all_there all (omega (arith, length-append front s')) w in
    record {
      held = first_of 4 all;
      low = get_or-append front s' 0 4 (omega arith);
      high = get_or-append front s' 0 5 (omega arith);
      body = rw (c, d);
      long = body-length 4 all f ∙ c;
      is = rw (later-front u s s' short z h) (more 4 all f ∙ rw (behind-front all, c, d));
      state = front-taken u s s' short z h;
    }
