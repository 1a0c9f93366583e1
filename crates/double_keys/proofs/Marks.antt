-- The marks of keys: equal keys have one mark, so a key whose mark no other has is equal to none. And the list of the others' indexes.
-- Assumes nothing.
use mathlib.Core.Path.{◌≡◌, refl, sym, ◌∙◌}
use mathlib.Core.Bool.{Bool, true, false}
use mathlib.Core.Logic.{◌⊎◌, inl, inr, ⊎_elim}
use mathlib.Core.List.{List}
use Prim.Native.Nat.{ℕ, ◌+◌, ◌%◌, ◌≤◌, ◌<◌}
use native.Mathlib.Nat.{mod-lt}
use native.Mathlib.Omega.{arith}
use lib.ListN.{length, get_or, set, length-set}
use lib.Dec.{ltb}
use lib.Seq.{get_or-set_same, get_or-set_other}
use borrow.Author.Tests.{ltb-true, ltb-false}
use Rattle.keys.specs.Keys.{equal}
use Rattle.keys.proofs.Equal.{equal-true}
use Rattle.double_keys.specs.Search.{hash, key_of, Marked}

-- an index of a row that has v at index i: one below, or i itself
pub data Spot (row row' : List ℕ) (i v t : ℕ) : Type 0 where
  below : t < i → get_or row' t 0 ≡ get_or row t 0 → Spot row row' i v t
  here : t ≡ i → get_or row' t 0 ≡ v → Spot row row' i v t

pub spot : (row : List ℕ) (i v t : ℕ) → i < length row → t < i + 1 → Spot row (set row i v) i v t
spot row i v t w h = by (ltb t i) refl
  where
    by : (b : Bool) → ltb t i ≡ b → Spot row (set row i v) i v t
    by true e = let l = ltb-true t i e in below l (get_or-set_other row i t v 0 (λ f. omega arith))
    by false e = let l = ltb-false t i e in let q : t ≡ i = omega arith in here q (rw (q, get_or-set_same row i v 0 w))

-- counts after one more key of a mark: none is less, and that of the mark is 2 or one more
pub record Raised (counts counts' : List ℕ) (mark : ℕ) : Type 0 where
  pub long : length counts' ≡ length counts
  pub keeps : (t : ℕ) → get_or counts t 0 ≤ get_or counts' t 0
  pub more : (2 ≤ get_or counts' mark 0) ⊎ (get_or counts mark 0 + 1 ≤ get_or counts' mark 0)

pub raised_none : (counts : List ℕ) (mark : ℕ) → 2 ≤ get_or counts mark 0 → Raised counts counts mark
raised_none counts mark h = record { long = refl; keeps = λ t. omega arith; more = inl h }

pub raised_one : (counts : List ℕ) (mark : ℕ) → mark < length counts → Raised counts (set counts mark (get_or counts mark 0 + 1)) mark
raised_one counts mark h = record {
  long = length-set counts mark (get_or counts mark 0 + 1);
  keeps = λ t. by t (ltb t mark) refl (ltb mark t) refl;
  more = inr (omega (arith, get_or-set_same counts mark (get_or counts mark 0 + 1) 0 h));
}
  where
    apart : (t : ℕ) → (t ≡ mark → ⊥) → get_or counts t 0 ≤ get_or (set counts mark (get_or counts mark 0 + 1)) t 0
    apart t f = omega (arith, get_or-set_other counts mark t (get_or counts mark 0 + 1) 0 f)

    by : (t : ℕ) (a : Bool) → ltb t mark ≡ a → (b : Bool) → ltb mark t ≡ b → get_or counts t 0 ≤ get_or (set counts mark (get_or counts mark 0 + 1)) t 0
    by t true e b f = let l = ltb-true t mark e in apart t (λ g. omega arith)
    by t false e true f = let l = ltb-true mark t f in apart t (λ g. omega arith)
    by t false e false f =
        let l = ltb-false t mark e in
        let m = ltb-false mark t f in
        let q : t ≡ mark = omega arith in
        rw q (omega (arith, get_or-set_same counts mark (get_or counts mark 0 + 1) 0 h))

module _ (s starts stops : List ℕ) where
  -- the first i keys have their marks in the row, and each mark is counted
  pub record Counted (counts row : List ℕ) (i : ℕ) : Type 0 where
    pub marks : (t : ℕ) → t < i → get_or row t 0 ≡ hash (key_of s starts stops t) % length counts
    pub ones : (t : ℕ) → t < i → 1 ≤ get_or counts (get_or row t 0) 0
    pub twos : (t u : ℕ) → t < u → u < i → get_or row t 0 ≡ get_or row u 0 → 2 ≤ get_or counts (get_or row t 0) 0

  pub counted_none : (counts row : List ℕ) → Counted counts row 0
  counted_none counts row = record { marks = λ t h. absurd (omega arith); ones = λ t h. absurd (omega arith); twos = λ t u l h. absurd (omega arith) }

  module _ (counts counts' row : List ℕ) (i mark : ℕ) (c : Counted counts row i) (r : Raised counts counts' mark) (w : i < length row) (e : mark ≡ hash (key_of s starts stops i) % length counts) where
    abbrev row' : List ℕ
    row' = set row i mark

    marks' : (t : ℕ) → Spot row row' i mark t → get_or row' t 0 ≡ hash (key_of s starts stops t) % length counts'
    marks' t (below l f) = rw (f, r.long) (c.marks t l)
    marks' t (here q f) = rw (f, q, r.long) e

    one : 1 ≤ get_or counts' mark 0
    one = ⊎_elim (λ m. omega arith) (λ m. omega arith) r.more

    ones' : (t : ℕ) → Spot row row' i mark t → 1 ≤ get_or counts' (get_or row' t 0) 0
    ones' t (below l f) = rw f (omega (arith, c.ones t l, r.keeps (get_or row t 0)))
    ones' t (here q f) = rw f one

    twos' : (t u : ℕ) → t < u → Spot row row' i mark t → Spot row row' i mark u → get_or row' t 0 ≡ get_or row' u 0 → 2 ≤ get_or counts' (get_or row' t 0) 0
    twos' t u l (below a f) (below b g) h = rw f (omega (arith, c.twos t u l b (sym f ∙ h ∙ g), r.keeps (get_or row t 0)))
    twos' t u l (below a f) (here q g) h =
        let k : get_or row t 0 ≡ mark = sym f ∙ h ∙ g in
        let o : 1 ≤ get_or counts mark 0 = rw k at (c.ones t a) in
        rw (f, k) (⊎_elim (λ m. omega arith) (λ m. omega arith) r.more)
    twos' t u l (here q f) (below b g) h = absurd (omega arith)
    twos' t u l (here q f) (here p g) h = absurd (omega arith)

    pub counted-more : Counted counts' row' (i + 1)
    counted-more = record {
      marks = λ t h. marks' t (spot row i mark t w h);
      ones = λ t h. ones' t (spot row i mark t w h);
      twos = λ t u l h k. twos' t u l (spot row i mark t w (omega arith)) (spot row i mark u w h) k;
    }

  pub marked : (n : ℕ) (counts row : List ℕ) → 0 < length counts → Counted counts row n → Marked s starts stops n counts row
  marked n counts row some c = record {
    marks = λ t h. rw (c.marks t h) (mod-lt _ some);
    alone = λ t u h k d l. by t u h k d l (equal (key_of s starts stops t) (key_of s starts stops u)) refl (ltb t u) refl;
  }
    where
      by : (t u : ℕ) → t < n → u < n → (t ≡ u → ⊥) → get_or counts (get_or row t 0) 0 < 2 → (b : Bool) → equal (key_of s starts stops t) (key_of s starts stops u) ≡ b → (a : Bool) → ltb t u ≡ a → b ≡ false
      by t u h k d l false e a f = refl
      by t u h k d l true e a f =
          let g : get_or row t 0 ≡ get_or row u 0 = c.marks t h ∙ rw (equal-true _ _ e) (sym (c.marks u k)) in
          absurd (two a f g)
        where
          two : (a : Bool) → ltb t u ≡ a → get_or row t 0 ≡ get_or row u 0 → ⊥
          two true f g = omega (arith, c.twos t u (ltb-true t u f) k g)
          two false f g =
              let m = ltb-false t u f in
              let o : u < t = omega (arith, d) in
              let z : 2 ≤ get_or counts (get_or row t 0) 0 = rw g (c.twos u t o h (sym g)) in
              omega arith
