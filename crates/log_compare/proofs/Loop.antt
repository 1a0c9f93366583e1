-- The loop that compares two whole logs, with pieces of any sizes, ends behind their last bytes, and says what differs. Assumes nothing.
use Rattle.std.proofs.Common.{◌≡◌, ℕ, zero, suc, ◌+◌, ◌<◌, ◌≤◌, Bool, true, false, leb, ◌⊎◌, List, [], ◌∷◌, ◌++◌, length, take, drop, sym, refl, ap, ◌∙◌, inl, inr, arith, length-drop, take-append-drop, drop_of_length-le, length-take, length-take-le, leb-false, leb-true}
use lib.Seq.{drop-append-le}
use Rattle.log_compare.specs.Partial.{UnderWay, under_way}
use Rattle.log_compare.specs.Steps.{Standing, Stepped, fresh, standing, step_of}
use Rattle.log_compare.specs.Laws.{said_of, Steps, done, step, is_rest, AtHand, Looped, turns, LoopEnds}
use Rattle.log_compare.proofs.Comparison.{step-takes, rest-first, rest-second, short-first, short-second, rest-fresh, says_all, ends-whole}
use Rattle.log_compare.proofs.Progress.{moves}

-- ---- a piece of a log

module _ (n : ℕ) (s : List ℕ) where
  abbrev piece : List ℕ
  piece = take (suc n) s

  abbrev rest : List ℕ
  rest = drop (suc n) s

  abbrev is_all : Bool
  is_all = leb (length s) (suc n)

  joins : piece ++ rest ≡ s
  joins = take-append-drop (suc n) s

  at_hand_lem : (u : UnderWay) → length u.head < 6 → is_rest u s ≡ true → AtHand u piece rest is_all
  at_hand_lem u short r = record {
    short = short;
    rest = rw joins r;
    last = λ e. drop_of_length-le s (leb-true (length s) (suc n) e);
    some = some is_all refl;
  }
    where
      some : (t : Bool) → is_all ≡ t → (is_all ≡ true) ⊎ (0 < length piece)
      some true e = inl e
      some false e = inr (omega (arith, leb-false (length s) (suc n) e, length-take-le (suc n) s (omega (arith, leb-false (length s) (suc n) e))))

  -- what a step leaves of it, with what follows
  left : (j : ℕ) → j ≤ length piece → drop j piece ++ rest ≡ drop j s
  left j l = sym (drop-append-le j piece rest l) ∙ ap (drop j) joins

none : (s : List ℕ) → length s ≡ 0 → s ≡ []
none [] e = refl
none (b ∷ s) e = let no : ⊥ = omega arith in absurd no

-- ---- one turn

record Ran (c : Standing) (a b : List ℕ) (t : Looped) : Type 0 where
  first : t.first ≡ []
  second : t.second ≡ []
  steps : Steps c a b t.said t.state

module _ (m n : ℕ) (c : Standing) (a b : List ℕ) (short : length c.first.head < 6) (short' : length c.second.head < 6)
    (x : is_rest c.first a ≡ true) (y : is_rest c.second b ≡ true) where
  abbrev r : Stepped
  r = step_of c (piece m a) (is_all m a) (piece n b) (is_all n b)

  first-left : drop r.first (piece m a) ++ rest m a ≡ drop r.first a
  first-left = left m a r.first (step-takes c (piece m a) (piece n b) (is_all m a) (is_all n b)).first.there

  second-left : drop r.second (piece n b) ++ rest n b ≡ drop r.second b
  second-left = left n b r.second (step-takes c (piece m a) (piece n b) (is_all m a) (is_all n b)).second.there

  turn : (t : Looped) → Ran r.state (drop r.first a) (drop r.second b) t
      → Ran c a b (record { state = t.state; first = t.first; second = t.second; said = said_of r.said ++ t.said })
  turn t next =
      let p = at_hand_lem m a c.first short x in
      let q = at_hand_lem n b c.second short' y in
      let on : Steps r.state (drop r.first (piece m a) ++ rest m a) (drop r.second (piece n b) ++ rest n b) t.said t.state =
      rw (first-left, second-left) next.steps in
      let s = step c (piece m a) (rest m a) (is_all m a) (piece n b) (rest n b) (is_all n b) p.last q.last on in
      record { first = next.first; second = next.second; steps = rw (joins m a, joins n b) at s }

  rest-first-on : is_rest r.state.first (drop r.first a) ≡ true
  rest-first-on =
      rw (← first-left) (sym (rest-first c (piece m a) (rest m a) (is_all m a) (piece n b) (rest n b) (is_all n b) short short') ∙ rw (joins m a) x)

  rest-second-on : is_rest r.state.second (drop r.second b) ≡ true
  rest-second-on =
      rw (← second-left) (sym (rest-second c (piece m a) (rest m a) (is_all m a) (piece n b) (rest n b) (is_all n b) short short') ∙ rw (joins n b) y)

  short-first-on : length r.state.first.head < 6
  short-first-on = short-first c (piece m a) (rest m a) (is_all m a) (piece n b) (rest n b) (is_all n b) short short'

  short-second-on : length r.state.second.head < 6
  short-second-on = short-second c (piece m a) (rest m a) (is_all m a) (piece n b) (rest n b) (is_all n b) short short'

  -- less is left than before, if anything was
  less : (k : ℕ) → length a + length b ≤ suc k → length (drop r.first a) + length (drop r.second b) ≤ k
  less k l = case (length (piece m a) + length (piece n b)) refl
    where
      case : (i : ℕ) → length (piece m a) + length (piece n b) ≡ i → length (drop r.first a) + length (drop r.second b) ≤ k
      case zero e = omega (arith, length-take (suc m) a, length-take (suc n) b, length-drop r.first a, length-drop r.second b)
      case (suc i) e =
          let t = step-takes c (piece m a) (piece n b) (is_all m a) (is_all n b) in
          let p = at_hand_lem m a c.first short x in
          let q = at_hand_lem n b c.second short' y in
          let some = (moves c (piece m a) (rest m a) (is_all m a) (piece n b) (rest n b) (is_all n b) p q (omega arith)).takes in
          let j = t.first.there in
          let k = t.second.there in
          omega (arith, length-take (suc m) a, length-take (suc n) b, length-drop r.first a, length-drop r.second b)

-- ---- all turns

loop : (n : ℕ) (f g : ℕ → ℕ) (c : Standing) (a b : List ℕ) → length c.first.head < 6 → length c.second.head < 6
    → is_rest c.first a ≡ true → is_rest c.second b ≡ true → length a + length b ≤ n → Ran c a b (turns n f g c a b)
unfolding turns
loop zero f g c a b short short' x y l =
    let e : a ≡ [] = none a (omega arith) in
    let d : b ≡ [] = none b (omega arith) in
    record { first = e; second = d; steps = rw (e, d) (done c) }
loop (suc k) f g c a b short short' x y l =
    turn (f k) (g k) c a b short short' x y _
    (loop k f g _ _ _ (short-first-on (f k) (g k) c a b short short' x y) (short-second-on (f k) (g k) c a b short short' x y)
    (rest-first-on (f k) (g k) c a b short short' x y) (rest-second-on (f k) (g k) c a b short short' x y) (less (f k) (g k) c a b short short' x y k l))

pub loop-ends : LoopEnds
unfolding standing under_way
loop-ends a b n f g h k bound l =
    let t = loop n f g (standing fresh) a b (omega arith) (omega arith) (rest-fresh a ∙ h) (rest-fresh b ∙ k) l in
    let d : Looped = turns n f g (standing fresh) a b in
    let e = ends-whole a b d.said d.state h k t.steps in
    record { first = t.first; second = t.second; end = e; said = (says_all a b d.said d.state bound t.steps e).said }
