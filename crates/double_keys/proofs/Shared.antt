-- The search among the keys that share their marks answers for all the keys, and so does the search among all of them.
-- Assumes nothing.
use mathlib.Core.Path.{◌≡◌, refl, sym, ◌∙◌}
use mathlib.Core.Bool.{Bool, true, false}
use mathlib.Core.Logic.{◌⊎◌, inl, inr}
use mathlib.Core.List.{List}
use Prim.Native.Nat.{ℕ, ◌≤◌, ◌<◌}
use native.Mathlib.Omega.{arith}
use lib.ListN.{length, get_or}
use lib.Dec.{ltb}
use borrow.Author.Tests.{ltb-true, ltb-false}
use Rattle.keys.specs.Keys.{equal, twice}
use Rattle.keys.proofs.Equal.{equal-sym}
use Rattle.double_keys.specs.Row.{kept}
use Rattle.double_keys.specs.Search.{key_of, Places, Marked, Indexes, Counts, Listed, Lists, Ordered, Searched}
use Rattle.double_keys.specs.Blocks.{InOrder}
use Rattle.double_keys.proofs.KeyLists.{kept-single}

-- of two indexes listed, the lesser is listed first
in_turn_lem : (n : ℕ) (row : List ℕ) (m t u : ℕ) → Indexes n row m → t < u → (x : Listed row m t) → (y : Listed row m u) → x.index < y.index
in_turn_lem n row m t u r l x y = by (ltb x.index y.index) refl (ltb y.index x.index) refl
  where
    by : (a : Bool) → ltb x.index y.index ≡ a → (b : Bool) → ltb y.index x.index ≡ b → x.index < y.index
    by true e b f = ltb-true _ _ e
    by false e true f = absurd (omega (arith, r.rising _ _ (ltb-true y.index x.index f) x.below, x.here, y.here))
    by false e false f =
        let g = ltb-false x.index y.index e in
        let h = ltb-false y.index x.index f in
        let q : x.index ≡ y.index = omega arith in
        let w : t ≡ u = sym x.here ∙ rw q y.here in
        absurd (omega arith)

module _ (s starts stops : List ℕ) (n : ℕ) (counts row row' row'' : List ℕ) (m : ℕ) (marked : Marked s starts stops n counts row) (lists : Lists n counts row row' m) where
  module _ (o : Ordered s starts stops row' row'' m) where
    abbrev differ : ℕ → ℕ → Type 0
    differ t u = equal (key_of s starts stops t) (key_of s starts stops u) ≡ false

    both : (t u : ℕ) → t < u → Listed row' m t → Listed row' m u → differ t u
    both t u l x y =
        let e = o.apart x.index y.index (in_turn_lem n row' m t u lists.indexes l x y) y.below in
        rw (x.here, y.here) at e

    by_lists : (t u : ℕ) → t < u → u < n → (get_or counts (get_or row t 0) 0 < 2) ⊎ Listed row' m t → (get_or counts (get_or row u 0) 0 < 2) ⊎ Listed row' m u → differ t u
    by_lists t u l h (inl a) y = marked.alone t u (omega arith) h (λ e. omega arith) a
    by_lists t u l h (inr x) (inl b) = equal-sym _ _ ∙ marked.alone u t h (omega arith) (λ e. omega arith) b
    by_lists t u l h (inr x) (inr y) = both t u l x y

    single : Places s starts stops n → twice (kept s starts stops n) ≡ false
    single p = kept-single s starts stops n p.0 p.1 (λ t u l h. by_lists t u l h (lists.all t (omega arith)) (lists.all u h))

  pub answers : Places s starts stops n → (r : Bool) → Searched s starts stops n row' row'' m r → r ≡ twice (kept s starts stops n)
  answers p true x = sym (x.double refl)
  answers p false x = sym (single (x.single refl) p)

-- What the search shows where the row lists all the indexes below n.
module _ {n : ℕ} {row₀ row : List ℕ} (c : Counts n row₀ row) where
  pub all_listed : n ≤ length row → Indexes n row n
  all_listed h = record { room = h; places = λ t l. rw (c.each t l) l; rising = λ t u l k. rw (c.each t (omega arith), c.each u k) l }

  module _ (s starts stops : List ℕ) {row' : List ℕ} (p : Places s starts stops n) (x : Searched s starts stops n row row' n false) where
    pub in_order : n ≤ length row → n ≤ 65536 → InOrder s starts stops n row'
    in_order h m = record {
      in_s = p;
      room = omega (arith, x.long);
      few = m;
      places = x.places;
      falls = (x.single refl).falls;
      all = λ y f t l. rw (c.each t l) at ((x.single refl).all y f t l);
    }

    pub none-twice : twice (kept s starts stops n) ≡ false
    none-twice = kept-single s starts stops n p.0 p.1 (λ t u l h. rw (c.each t (omega arith), c.each u h) at ((x.single refl).apart t u l h))

  pub all-answer : (s starts stops : List ℕ) {row' : List ℕ} → Places s starts stops n → (r : Bool) → Searched s starts stops n row row' n r → r ≡ twice (kept s starts stops n)
  all-answer s starts stops p true x = sym (x.double refl)
  all-answer s starts stops p false x = sym (none-twice s starts stops p x)
