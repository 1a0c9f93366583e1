-- A turn of a loop over a field that stands n times: reading, judging, putting.
-- Assumes nothing.
use Prim.Native.Nat.{ℕ, zero, suc, ◌+◌, ◌-◌, ◌*◌, ◌<◌, ◌≤◌}
use mathlib.Core.Bool.{Bool, true, false, ◌&&◌}
use mathlib.Core.List.{List, [], ◌∷◌, ◌++◌, append_assoc, append-nil}
use mathlib.Core.Path.{◌≡◌, refl, sym, ap, ◌∙◌}
use native.Mathlib.Nat.{mul-suc}
use native.Mathlib.Numerals.{add-one}
use native.Mathlib.Omega.{arith}
use lib.ListN.{length, take, drop, get_or, set, length-append}
use lib.Seq.{take-suc, take-suc-set, take_all, drop-drop}
use Rattle.buffer.specs.Bytes.{write}
use Rattle.buffer.proofs.WriteLaws.{write-twice, write-none}
use Rattle.fields.specs.Fields.{Field, put_all, get_all, good_all}
use Rattle.fields.proofs.FieldLaws.{and_left, and_right}

-- ---- reading: a list that agrees with another in its first i elements

module _ {A : Type 0} (d : A) (l g : List A) (i : ℕ) where
  pub filled_more : (a : A) → take i l ≡ take i g → i < length l → i < length g → a ≡ get_or g i d → take (i + 1) (set l i a) ≡ take (i + 1) g
  filled_more a e h k q = rw (add-one, take-suc-set l i a h, take-suc g i d k, e, q)

  pub filled-all : take i l ≡ take i g → length l ≤ i → length g ≤ i → l ≡ g
  filled-all e h k = sym (take_all i l h) ∙ e ∙ take_all i g k

module _ {A : Type 0} (f : Field A) where
  pub length-get_all : (n : ℕ) (b : List ℕ) → length (get_all f n b) ≡ n
  unfolding get_all
  length-get_all zero b = refl
  length-get_all (suc n) b = ap suc (length-get_all n (drop f.width b))

  pub get_all-first : (n i : ℕ) (b : List ℕ) (d : A) → i < n → get_or (get_all f n b) i d ≡ f.get (drop (f.width * i) b)
  unfolding get_all
  get_all-first zero i b d h = absurd (none h)
    where
      none : i < 0 → ⊥
      none k = omega arith
  get_all-first (suc n) zero b d h =
      let e : f.width * 0 ≡ 0 = omega arith in
      rw e
  get_all-first (suc n) (suc i) b d h =
      let e : f.width + f.width * i ≡ f.width * suc i = omega (arith, mul-suc f.width i) in
      get_all-first n i (drop f.width b) d (omega arith) ∙ ap f.get (drop-drop (f.width * i) f.width b ∙ ap (λ (k : ℕ). drop k b) e)

  -- the values from place p on
  pub get_all-at : (n i p : ℕ) (b : List ℕ) (d : A) → i < n → get_or (get_all f n (drop p b)) i d ≡ f.get (drop (p + f.width * i) b)
  get_all-at n i p b d h = get_all-first n i (drop p b) d h ∙ ap f.get (drop-drop (f.width * i) p b)

  -- ---- judging: what came before is good, and n are left

  good-next : (n : ℕ) (b : List ℕ) → 0 < n → good_all f n b ≡ (f.good b && good_all f (n - 1) (drop f.width b))
  unfolding good_all
  good-next zero b h = absurd (none h)
    where
      none : 0 < 0 → ⊥
      none k = omega arith
  good-next (suc n) b h =
      let e : suc n - 1 ≡ n = omega arith in
      rw e

  pub good_more : (good : Bool) (n at : ℕ) (b : List ℕ) → 0 < n
      → (good && good_all f n (drop at b)) ≡ ((good && f.good (drop at b)) && good_all f (n - 1) (drop (at + f.width) b))
  good_more true n at b h = good-next n (drop at b) h ∙ ap (λ (l : List ℕ). f.good (drop at b) && good_all f (n - 1) l) (drop-drop f.width at b)
  good_more false n at b h = refl

  pub good-end : (good : Bool) (n : ℕ) (b : List ℕ) → n ≤ 0 → (good && good_all f n b) ≡ good
  unfolding good_all
  good-end false n b h = refl
  good-end true n b h =
      let e : n ≡ 0 = omega arith in
      rw e

  -- all are good, so each is
  pub good-at : (n i : ℕ) (b : List ℕ) → i < n → good_all f n b ≡ true → f.good (drop (f.width * i) b) ≡ true
  unfolding good_all
  good-at zero i b h g = absurd (omega arith)
  good-at (suc n) zero b h g =
      let e : f.width * 0 ≡ 0 = omega arith in
      rw e (and_left (f.good b) (good_all f n (drop f.width b)) g)
  good-at (suc n) (suc i) b h g =
      let e : f.width + f.width * i ≡ f.width * suc i = omega (arith, mul-suc f.width i) in
      ap f.good (sym (drop-drop (f.width * i) f.width b ∙ ap (λ (k : ℕ). drop k b) e))
      ∙ good-at n i (drop f.width b) (omega arith) (and_right (f.good b) (good_all f n (drop f.width b)) g)

  -- ---- putting: the first i values are put from a place on, each as long as the field

  put_all_append : (xs ys : List A) → put_all f (xs ++ ys) ≡ put_all f xs ++ put_all f ys
  unfolding put_all
  put_all_append [] ys = refl
  put_all_append (x ∷ xs) ys = ap (λ (l : List ℕ). f.put x ++ l) (put_all_append xs ys) ∙ sym (append_assoc (f.put x) (put_all f xs) (put_all f ys))

  pub put_all-length : (l : List A) → ((a : A) → length (f.put a) ≡ f.width) → length (put_all f l) ≡ f.width * length l
  unfolding put_all
  put_all-length [] h = omega arith
  put_all-length (x ∷ xs) h = omega (arith, length-append (f.put x) (put_all f xs), h x, put_all-length xs h, mul-suc f.width (length xs))

  pub record PutTo (out : List ℕ) (at : ℕ) (l : List A) (i : ℕ) (now : List ℕ) : Type 0 where
    pub is : now ≡ write out at (put_all f (take i l))
    pub size : length (put_all f (take i l)) ≡ f.width * i

  module _ (out : List ℕ) (at : ℕ) (l : List A) where
    pub put-none : PutTo out at l 0 out
    unfolding put_all
    put-none = record { is = sym (write-none out at); size = omega arith }

    pub put-more : (now : List ℕ) (d : A) (i : ℕ) → i < length l → length (f.put (get_or l i d)) ≡ f.width → PutTo out at l i now
        → PutTo out at l (i + 1) (write now (at + f.width * i) (f.put (get_or l i d)))
    unfolding put_all
    put-more now d i h k t =
        let x : List ℕ = f.put (get_or l i d) in
        let one : put_all f (take i l) ++ x ≡ put_all f (take (i + 1) l) = rw (add-one, take-suc l i d h, put_all_append, append-nil) in
        record {
          is =
              ap (λ (o : List ℕ). write o (at + f.width * i) x) t.is
              ∙ ap (λ (m : ℕ). write (write out at (put_all f (take i l))) (at + m) x) (sym t.size)
              ∙ write-twice out at (put_all f (take i l)) x
              ∙ ap (write out at) one;
          size = ap length (sym one) ∙ omega (arith, length-append (put_all f (take i l)) x, t.size, k, mul-suc f.width i);
        }

    pub put-all : (now : List ℕ) (i : ℕ) → length l ≤ i → PutTo out at l i now → now ≡ write out at (put_all f l)
    put-all now i h t = t.is ∙ ap (λ (m : List A). write out at (put_all f m)) (take_all i l h)

    pub put-size : (now : List ℕ) (i : ℕ) → length l ≤ i → PutTo out at l i now → length (put_all f l) ≡ f.width * i
    put-size now i h t = ap (λ (m : List A). length (put_all f m)) (sym (take_all i l h)) ∙ t.size
