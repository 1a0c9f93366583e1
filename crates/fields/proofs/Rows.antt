-- A row of values that stand in bytes one behind another, and the bytes cut into parts of one length.
-- Assumes nothing.
use Prim.Native.Nat.{ℕ, zero, suc, ◌+◌, ◌-◌, ◌*◌, ◌/◌, ◌<◌, ◌≤◌, min}
use mathlib.Core.Bool.{Bool, ◌&&◌}
use mathlib.Core.List.{List, [], ◌∷◌, ◌++◌, map}
use mathlib.Core.Path.{◌≡◌, refl, sym, ap, ◌∙◌}
use mathlib.Core.Logic.{⊎_elim}
use native.Mathlib.Nat.{suc-mul, eq-zero-or-pos, mul-div_left}
use native.Mathlib.Omega.{arith}
use lib.ListN.{length, take, drop, get_or, length-drop, take-append-drop}
use lib.Seq.{length-take-le}
use Rattle.std.proofs.lemmas.List.{ext_get_or, get_or-take, get_or_past, length-map, length-take, take-map, take_all}
use Rattle.std.specs.List.{list_all, flat_map}
use Rattle.std.specs.Simd.{first_chunks}
use Rattle.fields.specs.Fields.{Field, padded, get_all, good_all, put_all, row_from}
use Rattle.fields.specs.Laws.{Local}
use Rattle.fields.proofs.Local.{many_local}
use Rattle.fields.proofs.Loops.{length-get_all}

module _ {A : Type 0} {f : Field A} {w : ℕ} (p : Local f) (same : f.width ≡ w) where
  first-get : (b : List ℕ) → w ≤ length b → f.get (take w b) ≡ f.get b
  first-get b h = sym (p.get (take w b) (drop w b) (omega (arith, length-take-le w b h))) ∙ ap f.get (take-append-drop w b)

  first-good : (b : List ℕ) → w ≤ length b → f.good (take w b) ≡ f.good b
  first-good b h = sym (p.good (take w b) (drop w b) (omega (arith, length-take-le w b h))) ∙ ap f.good (take-append-drop w b)

  behind : (b : List ℕ) → drop w b ≡ drop f.width b
  behind b = ap (λ (n : ℕ). drop n b) (sym same)

  pub rows-good : (n : ℕ) (b : List ℕ) → n * w ≤ length b → list_all f.good (first_chunks w n b) ≡ good_all f n b
  unfolding good_all
  rows-good zero b h = refl
  rows-good (suc n) b h =
      let s : suc n * w ≡ w + n * w = omega (arith, suc-mul n w) in
      ap (λ (x : Bool). x && list_all f.good (first_chunks w n (drop w b))) (first-good b (omega arith))
      ∙ ap (λ (x : Bool). f.good b && x) (rows-good n (drop w b) (omega (arith, length-drop w b)) ∙ ap (good_all f n) (behind b))

  pub rows-get : (n : ℕ) (b : List ℕ) → n * w ≤ length b → map f.get (first_chunks w n b) ≡ get_all f n b
  unfolding get_all
  rows-get zero b h = refl
  rows-get (suc n) b h =
      let s : suc n * w ≡ w + n * w = omega (arith, suc-mul n w) in
      ap (λ (x : A). x ∷ map f.get (first_chunks w n (drop w b))) (first-get b (omega arith))
      ∙ ap (λ (l : List A). f.get b ∷ l) (rows-get n (drop w b) (omega (arith, length-drop w b)) ∙ ap (get_all f n) (behind b))

module _ {A : Type 0} (d : A) where
  pub length-padded : (n : ℕ) (l : List A) → length (padded d n l) ≡ n
  unfolding padded
  length-padded zero l = refl
  length-padded (suc n) [] = ap suc (length-padded n [])
  length-padded (suc n) (x ∷ xs) = ap suc (length-padded n xs)

  pub get_or-padded : (n : ℕ) (l : List A) (i : ℕ) (e : A) → i < n → get_or (padded d n l) i e ≡ get_or l i d
  unfolding padded
  get_or-padded zero l i e h = absurd (omega arith)
  get_or-padded (suc n) [] zero e h = refl
  get_or-padded (suc n) [] (suc i) e h = get_or-padded n [] i e (omega arith)
  get_or-padded (suc n) (x ∷ xs) zero e h = refl
  get_or-padded (suc n) (x ∷ xs) (suc i) e h = get_or-padded n xs i e (omega arith)

  -- so many of them are there
  pub padded_none : (l : List A) → padded d (length l) l ≡ l
  unfolding padded
  padded_none [] = refl
  padded_none (x ∷ xs) = ap (λ (l : List A). x ∷ l) (padded_none xs)

-- rows that are the bytes of the values, one by one
module _ {A : Type 0} (f : Field A) where
  flat-put : (l : List A) → flat_map (λ row. row) (map f.put l) ≡ put_all f l
  unfolding put_all
  flat-put [] = refl
  flat-put (x ∷ xs) = ap (λ (t : List ℕ). f.put x ++ t) (flat-put xs)

  pub row-put : (n i : ℕ) (l : List A) (rows : List (List ℕ)) → length l ≡ n → length rows ≡ n → n ≤ i
      → ((k : ℕ) → k < i → get_or rows k [] ≡ get_or (map f.put l) k []) → flat_map (λ row. row) rows ≡ put_all f l
  row-put n i l rows e h end put =
      ap (flat_map (λ row. row)) (ext_get_or [] rows (map f.put l) (omega (arith, length-map l f.put)) (λ k u. put k (omega arith))) ∙ flat-put l

-- a list whose first elements were read from a row, as far as both go, and whose others are d
module _ {A R : Type 0} (d : A) (h : R → A) (n m : ℕ) (rows : List R) (e : m ≡ min (length rows) n) where
  all-of : (k : ℕ) → k < n → get_or (map h (take m rows)) k d ≡ get_or (map h rows) k d
  all-of k l =
      ⊎_elim (λ z. ap (λ (rs : List R). get_or (map h rs) k d) (take_all m rows (omega arith)))
      (λ p. ap (λ (xs : List A). get_or xs k d) (sym (take-map h m rows)) ∙ get_or-take m (map h rows) k d (omega arith))
      (eq-zero-or-pos (m - k))

  pub row-read : (i : ℕ) (l : List A) → length l ≡ n → length (take m rows) ≤ i
      → ((k : ℕ) → k < i → get_or l k d ≡ get_or (map h (take m rows)) k d) → ((k : ℕ) → k < n → i ≤ k → get_or l k d ≡ d)
      → l ≡ padded d n (map h rows)
  row-read i l long end read kept =
      ext_get_or d l (padded d n (map h rows)) (long ∙ sym (length-padded d n (map h rows)))
      (λ k u. at k (omega arith) ∙ sym (get_or-padded d n (map h rows) k d (omega arith)))
    where
      past : (k : ℕ) → k < n → i ≤ k → length (map h rows) ≤ k
      past k u v = omega (arith, length-map rows h, length-take m rows)

      at : (k : ℕ) → k < n → get_or l k d ≡ get_or (map h rows) k d
      at k u =
          ⊎_elim (λ z. kept k u (omega arith) ∙ sym (get_or_past (map h rows) k d (past k u (omega arith))))
          (λ p. read k (omega arith) ∙ all-of k u)
          (eq-zero-or-pos (i - k))

-- a row of n values within bytes, as code reads and judges it from their part of the bytes
module _ {A : Type 0} {f : Field A} (p : Local f) (h : 0 < f.width) (n : ℕ) (b : List ℕ) (l : n * f.width ≤ length b) where
  abbrev part : List ℕ
  part = take (n * f.width) b

  so-many : length part / f.width ≡ n
  so-many = ap (λ (k : ℕ). k / f.width) (length-take-le (n * f.width) b l) ∙ mul-div_left n h

  enough : n * f.width ≤ length part
  enough = omega (arith, length-take-le (n * f.width) b l)

  pub row-get : (d : A) → row_from f d n part ≡ get_all f n b
  unfolding row_from
  row-get d =
      ap (λ (k : ℕ). padded d n (get_all f k part)) so-many
      ∙ ap (λ (k : ℕ). padded d k (get_all f n part)) (sym (length-get_all f n part))
      ∙ padded_none d (get_all f n part)
      ∙ sym ((many_local p n).get part (drop (n * f.width) b) enough)
      ∙ ap (get_all f n) (take-append-drop (n * f.width) b)

  pub row-good : good_all f (length part / f.width) part ≡ good_all f n b
  row-good =
      ap (λ (k : ℕ). good_all f k part) so-many
      ∙ sym ((many_local p n).good part (drop (n * f.width) b) enough)
      ∙ ap (good_all f n) (take-append-drop (n * f.width) b)

-- and where they are all the bytes
pub row-all : {A : Type 0} {f : Field A} → Local f → 0 < f.width → (n : ℕ) (b : List ℕ) → length b ≡ n * f.width → (d : A) → row_from f d n b ≡ get_all f n b
row-all {A} {f} p h n b l d = ap (row_from f d n) (sym (take_all (n * f.width) b (omega arith))) ∙ row-get p h n b (omega arith) d
