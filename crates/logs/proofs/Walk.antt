-- The records of a log, one after the other: the record in front, where it ends, and a claim of every log by its records. Assumes nothing.
use Prim.Native.Nat.{ℕ, zero, suc, ◌+◌, ◌≤◌, ◌<◌}
use native.Mathlib.Numerals.{add-one}
use native.Mathlib.Omega.{arith}
use mathlib.Core.Path.{◌≡◌, refl, ◌∙◌}
use mathlib.Core.Bool.{Bool, true, false, cond}
use mathlib.Core.List.{List, [], ◌∷◌}
use borrow.Author.Tests.{leb-true, leb-false, le-leb, lt-leb}
use lib.ListN.{length, take, drop, length-append, length-drop}
use lib.Seq.{drop-nil, drop-cons, length-take-le, take-add}
use Rattle.fields.specs.Fields.{number, little}
use Rattle.fields.specs.Laws.{AreBytes}
use Rattle.fields.proofs.FieldLaws.{number_lawful, number_size}
use Rattle.logs.specs.Logs.{Stored, stored_bytes, claimed, size, is_there, first_of, records_from, records}
use Rattle.std.specs.Prelude.{Option, Some, None}
use Rattle.std.proofs.Common.{get_or-take}
use Rattle.logs.specs.Steps.{front_length}

-- ---- the record in front

-- bytes that are passed over
passed : (w k : ℕ) (s : List ℕ) → records_from w k s ≡ records w (drop k s)
unfolding records_from
passed w k [] = rw (drop-nil k)
passed w zero (b ∷ s) = refl
passed w (suc k) (b ∷ s) = passed w k s

module _ (w : ℕ) where
  pub there : (s : List ℕ) → is_there w s ≡ true → size w s ≤ length s
  unfolding is_there
  there s h = leb-true (size w s) (length s) h

  pub not_there : (s : List ℕ) → is_there w s ≡ false → length s < size w s
  unfolding is_there
  not_there s h = leb-false (size w s) (length s) h

  pub more : (s : List ℕ) → is_there w s ≡ true → records w s ≡ first_of w s ∷ records w (drop (size w s) s)
  unfolding records_from
  more [] h = absurd (none (there [] h))
    where
      none : w + 2 + claimed w [] ≤ 0 → ⊥
      none k = omega arith
  more (b ∷ s) h =
      let e : size w (b ∷ s) ≡ suc (w + 1 + claimed w (b ∷ s)) = omega arith in
      rw (h, e, passed w (w + 1 + claimed w (b ∷ s)) s)

  pub last : (s : List ℕ) → is_there w s ≡ false → records w s ≡ []
  unfolding records_from
  last [] h = refl
  last (b ∷ s) h = rw h

-- its length, with a length field of v bytes
pub stored-length : (v : ℕ) (r : Stored) → length (stored_bytes v r) ≡ v + 2 + length r.body
unfolding stored_bytes
stored-length v r =
    length-append ((number v).put (length r.body)) (r.low ∷ r.high ∷ r.body) ∙ omega (arith, number_size v (length r.body))

module _ (w : ℕ) (s : List ℕ) (h : is_there w s ≡ true) where
  pub body-length : length (first_of w s).body ≡ claimed w s
  unfolding first_of
  body-length = length-take-le (claimed w s) (drop (w + 2) s) (omega (arith, there w s h, length-drop (w + 2) s))

  pub first-length : (v : ℕ) → length (stored_bytes v (first_of w s)) ≡ v + 2 + claimed w s
  first-length v = stored-length v (first_of w s) ∙ rw body-length

  -- written again, it is the bytes that it was read from
  pub first : AreBytes s → stored_bytes w (first_of w s) ≡ take (size w s) s
  unfolding stored_bytes first_of claimed
  first bytes =
      let n : ℕ = (number w).get s in
      let l : size w s ≤ length s = there w s h in
      let front : (number w).put n ≡ take w s = (number_lawful w).only s bytes (omega arith) refl in
      let a : w < length s = omega arith in
      let b : suc w < length s = omega arith in
      let e : w + 2 + n ≡ w + suc (suc n) = omega arith in
      let f : w + 2 ≡ suc (suc w) = omega arith in
      rw (body-length, e, take-add w (suc (suc n)) s, drop-cons s w 0 a, drop-cons s (suc w) 0 b, f, add-one, front)

-- ---- a claim of every log, record by record

pub by_record : (w : ℕ) (P : List ℕ → Type 0) → ((s : List ℕ) → is_there w s ≡ false → P s)
    → ((s : List ℕ) → is_there w s ≡ true → P (drop (size w s) s) → P s) → (s : List ℕ) → P s
by_record w P end step s = go (length s) s (omega arith)
  where
    case : (s : List ℕ) → ((t : List ℕ) → length t < length s → P t) → (b : Bool) → is_there w s ≡ b → P s
    case s f true e = step s e (f (drop (size w s) s) (omega (arith, there w s e, length-drop (size w s) s)))
    case s f false e = end s e

    go : (n : ℕ) (s : List ℕ) → length s ≤ n → P s
    go zero s l = case s (λ t k. absurd (none (length t) (length s) k l)) (is_there w s) refl
      where
        none : (a b : ℕ) → a < b → b ≤ 0 → ⊥
        none a b k l = omega arith
    go (suc n) s l = case s (λ t k. go n t (less (length t) (length s) k l)) (is_there w s) refl
      where
        less : (a b : ℕ) → a < b → b ≤ suc n → a ≤ n
        less a b k l = omega arith

-- ---- the length of the record in front

module _ (w : ℕ) (s : List ℕ) where
  pub front_none : length s < size w s → front_length w s ≡ None
  unfolding front_length is_there
  front_none h = rw (lt-leb (size w s) (length s) h)

  pub front-some : size w s ≤ length s → front_length w s ≡ Some (size w s)
  unfolding front_length is_there
  front-some h = rw (le-leb (size w s) (length s) h)

  module _ (r : Option ℕ) (e : r ≡ front_length w s) where
    is-by-test : (n : ℕ) (b : Bool) → is_there w s ≡ b → r ≡ cond b (Some (size w s)) None → r ≡ Some n → (is_there w s ≡ true) × (n ≡ size w s)
    is-by-test n true f e k = (f, cc)
    is-by-test n false f e k = absurd (cc)

    pub front-is : (n : ℕ) → r ≡ Some n → (is_there w s ≡ true) × (n ≡ size w s)
    unfolding front_length
    front-is n k = is-by-test n (is_there w s) refl e k

    none-by-test : (b : Bool) → is_there w s ≡ b → r ≡ cond b (Some (size w s)) None → r ≡ None → is_there w s ≡ false
    none-by-test true f e k = absurd (cc)
    none-by-test false f e k = f

    pub front-is_none : r ≡ None → is_there w s ≡ false
    unfolding front_length
    front-is_none k = none-by-test (is_there w s) refl e k

-- a length field alone tells the same number
claimed-front : (w i n : ℕ) (s : List ℕ) → i + w ≤ n → little w i (take n s) ≡ little w i s
claimed-front zero i n s h = refl
claimed-front (suc w) i n s h =
    let k : i < n = omega arith in
    rw (get_or-take, claimed-front w (suc i) n s (omega arith))

pub claimed-take : (w : ℕ) (s : List ℕ) → w ≤ length s → claimed (length (take w s)) (take w s) ≡ claimed w s
unfolding claimed
claimed-take w s h = rw (length-take-le w s h) (claimed-front w 0 w s (omega arith))
