-- Keys taken in turn: those taken stand in order at the front of a row, the greatest first, and one more belongs between two of them.
-- Assumes nothing.
use mathlib.Core.Path.{◌≡◌, refl, sym, ap, ◌∙◌}
use mathlib.Core.Bool.{Bool, true, false}
use mathlib.Core.List.{List}
use Prim.Native.Nat.{ℕ, zero, suc, ◌+◌, ◌≤◌, ◌<◌}
use native.Mathlib.Omega.{arith}
use lib.ListN.{length, get_or}
use lib.Dec.{ltb}
use borrow.Author.Tests.{ltb-true, ltb-false}
use Rattle.std.specs.declared.cmp.Ordering.TheVariants.{Less}
use Rattle.keys.specs.Keys.{equal, twice}
use Rattle.keys.specs.Order.{compare}
use Rattle.keys.proofs.Equal.{equal-refl, equal-sym}
use Rattle.keys.proofs.Before.{is-before}
use Rattle.double_keys.specs.Row.{kept}
use Rattle.double_keys.specs.Search.{key_of, Places, Inserted, Indexes, Ordered}
use Rattle.double_keys.proofs.KeyLists.{kept_pair}
use Rattle.double_keys.proofs.Halves.{key_in, Falls, Between, other}

-- an index of a row into which v was put: one below it, its own, or one above, which is an index of before moved up
data Spot (row row' : List ℕ) (k at v t : ℕ) : Type 0 where
  front : t < at → get_or row' t 0 ≡ get_or row t 0 → Spot row row' k at v t
  here : t ≡ at → get_or row' t 0 ≡ v → Spot row row' k at v t
  back : (u : ℕ) → t ≡ suc u → at ≤ u → u < k → get_or row' t 0 ≡ get_or row u 0 → Spot row row' k at v t

spot : (row row' : List ℕ) (k at v : ℕ) → Inserted row row' k at v → (t : ℕ) → t < k + 1 → Spot row row' k at v t
spot row row' k at v p t h = by t h (ltb t at) refl (ltb at t) refl
  where
    up : (t : ℕ) → t < k + 1 → at < t → Spot row row' k at v t
    up zero h q = absurd (omega arith)
    up (suc u) h q = let l : at ≤ u = omega arith in let w : u < k = omega arith in back u refl l w (p.back u l w)

    by : (t : ℕ) → t < k + 1 → (a : Bool) → ltb t at ≡ a → (b : Bool) → ltb at t ≡ b → Spot row row' k at v t
    by t h true e b f = let l = ltb-true t at e in front l (p.front t l)
    by t h false e true f = up t h (ltb-true at t f)
    by t h false e false f =
        let l = ltb-false t at e in
        let m = ltb-false at t f in
        let q : t ≡ at = omega arith in here q (rw q p.here)

module _ (s starts stops : List ℕ) (n : ℕ) where
  abbrev key_of_list : List ℕ → ℕ → List ℕ
  key_of_list row t = key_in s starts stops row t

  -- Of the keys whose indexes a row has, the first i are taken: none of them is equal to another, and they stand in order.
  pub record Taken (row₀ row : List ℕ) (m i : ℕ) : Type 0 where
    pub upto : i ≤ m
    pub long : length row ≡ length row₀
    pub same : (t : ℕ) → i ≤ t → get_or row t 0 ≡ get_or row₀ t 0
    pub places : (t : ℕ) → t < m → get_or row t 0 < n
    pub under : (t u : ℕ) → t < i → i ≤ u → u < m → get_or row t 0 < get_or row₀ u 0
    pub falls : Falls s starts stops row i
    pub apart : (t u : ℕ) → t < u → u < i → equal (key_of_list row₀ t) (key_of_list row₀ u) ≡ false
    pub all : (x : List ℕ) → ((t : ℕ) → t < i → equal x (key_of_list row t) ≡ false) → (t : ℕ) → t < i → equal x (key_of_list row₀ t) ≡ false

  pub taken_none : (row : List ℕ) (m : ℕ) → Indexes n row m → Taken row row m 0
  taken_none row m x = record {
    upto = omega arith;
    long = refl;
    same = λ t h. refl;
    places = x.places;
    under = λ t u h. absurd (omega arith);
    falls = λ t u l h. absurd (omega arith);
    apart = λ t u l h. absurd (omega arith);
    all = λ x f t h. absurd (omega arith);
  }

  pub taken-all : (row₀ row : List ℕ) (m i : ℕ) → m ≤ i → Taken row₀ row m i → Ordered s starts stops row₀ row m
  taken-all row₀ row m i h k =
      let e : i ≡ m = omega (arith, k.upto) in
      record { apart = rw e at k.apart; falls = rw e at k.falls; all = rw e at k.all }

  -- the next key, between two of those taken
  module _ (row₀ row : List ℕ) (m i : ℕ) (k : Taken row₀ row m i) (more : i < m) (key : List ℕ) (is : key ≡ key_of_list row₀ i) where
    -- it is equal to one of them: that one has another index
    pub is-double : Places s starts stops n → (mid : ℕ) → mid < i → key ≡ key_of_list row mid → true ≡ twice (kept s starts stops n)
    is-double p mid h e =
        let u : get_or row₀ i 0 < n = rw (k.same i (omega arith)) at (k.places i more) in
        sym (kept_pair s starts stops n p.0 p.1 _ _ (k.under mid i h (omega arith) more) u (rw (← is, ← e) (equal-refl key)))

    module _ (low high : ℕ) (b : Between s starts stops row i key low high) (closed : high ≤ low) (rising : (t u : ℕ) → t < u → u < m → get_or row₀ t 0 < get_or row₀ u 0) (row' : List ℕ) (v : ℕ) (own : v ≡ get_or row₀ i 0) (p : Inserted row row' i low v) where
      abbrev Spots : ℕ → Type 0
      Spots t = Spot row row' i low v t

      at_low : low ≤ i
      at_low = omega (arith, b.across, b.upto)

      new : key_of s starts stops v ≡ key
      new = sym (is ∙ ap (key_of s starts stops) (sym own))

      place : (t : ℕ) → Spots t → get_or row' t 0 < n
      place t (front l e) = rw e (k.places t (omega (arith, at_low)))
      place t (here q e) = rw (e, own, ← k.same i (omega arith)) (k.places i more)
      place t (back u q l w e) = rw e (k.places u (omega arith))

      places' : (t : ℕ) → t < m → (a : Bool) → ltb t (i + 1) ≡ a → get_or row' t 0 < n
      places' t h true e = place t (spot row row' i low v p t (ltb-true t (i + 1) e))
      places' t h false e = let l = ltb-false t (i + 1) e in rw (p.beyond t (omega arith)) (k.places t h)

      below : (t u : ℕ) → Spots t → i + 1 ≤ u → u < m → get_or row' t 0 < get_or row₀ u 0
      below t u (front l e) h w = rw e (k.under t u (omega (arith, at_low)) (omega arith) w)
      below t u (here q e) h w = rw (e, own) (rising i u (omega arith) w)
      below t u (back y q l z e) h w = rw e (k.under y u z (omega arith) w)

      fall : (t u : ℕ) → t < u → Spots t → Spots u → compare (key_of_list row' u) (key_of_list row' t) ≡ Less
      fall t u h (front l e) (front w f) = rw (e, f) (k.falls t u h (omega (arith, at_low)))
      fall t u h (front l e) (here q f) = rw (e, f, new) (is-before _ _ (b.greater t l))
      fall t u h (front l e) (back y q w x f) = rw (e, f) (k.falls t y (omega arith) x)
      fall t u h (here q e) (front w f) = absurd (omega arith)
      fall t u h (here q e) (here r f) = absurd (omega arith)
      fall t u h (here q e) (back y r w x f) = rw (e, f, new) (is-before _ _ (b.lesser y (omega arith) x))
      fall t u h (back y q l z e) (front w f) = absurd (omega arith)
      fall t u h (back y q l z e) (here r f) = absurd (omega arith)
      fall t u h (back y q l z e) (back w r x g f) = rw (e, f) (k.falls y w (omega arith) g)

      -- none of those taken is equal to it
      differs : (t : ℕ) → t < i → equal key (key_of_list row₀ t) ≡ false
      differs = k.all key (other s starts stops row i k.falls key low high b closed)

      apart' : (t u : ℕ) → t < u → u < i + 1 → (a : Bool) → ltb u i ≡ a → equal (key_of_list row₀ t) (key_of_list row₀ u) ≡ false
      apart' t u l h true e = k.apart t u l (ltb-true u i e)
      apart' t u l h false e =
          let f = ltb-false u i e in
          let q : u ≡ i = omega arith in
          rw (q, ← is) (equal-sym (key_of_list row₀ t) key ∙ differs t (omega arith))

      -- a key that differs from those of the row now differs from those of the row before
      moved : (x : List ℕ) → ((t : ℕ) → t < i + 1 → equal x (key_of_list row' t) ≡ false) → (t : ℕ) → t < i → (a : Bool) → ltb t low ≡ a → equal x (key_of_list row t) ≡ false
      moved x f t h true e = let g = f t (omega arith) in rw (p.front t (ltb-true t low e)) at g
      moved x f t h false e = let g = f (suc t) (omega arith) in rw (p.back t (ltb-false t low e) h) at g

      all' : (x : List ℕ) → ((t : ℕ) → t < i + 1 → equal x (key_of_list row' t) ≡ false) → (t : ℕ) → t < i + 1 → (a : Bool) → ltb t i ≡ a → equal x (key_of_list row₀ t) ≡ false
      all' x f t h true e = k.all x (λ u w. moved x f u w (ltb u low) refl) t (ltb-true t i e)
      all' x f t h false e =
          let l = ltb-false t i e in
          let q : t ≡ i = omega arith in
          let g = f low (omega (arith, at_low)) in
          rw (q, ← own) (rw p.here at g)

      pub taken_more : Taken row₀ row' m (i + 1)
      taken_more = record {
        upto = omega arith;
        long = p.long ∙ k.long;
        same = λ t h. p.beyond t (omega arith) ∙ k.same t (omega arith);
        places = λ t h. places' t h (ltb t (i + 1)) refl;
        under = λ t u h. below t u (spot row row' i low v p t h);
        falls = λ t u l h. fall t u l (spot row row' i low v p t (omega arith)) (spot row row' i low v p u h);
        apart = λ t u l h. apart' t u l h (ltb u i) refl;
        all = λ x f t h. all' x f t h (ltb t i) refl;
      }
