-- The laws of fields: a value that fits comes back, and bytes are good only if they are a value's; each way of making a field keeps them.
-- Assumes nothing.
use Prim.Native.Nat.{ℕ, zero, suc, ◌+◌, ◌*◌, ◌/◌, ◌%◌, ◌^◌, ◌<◌, ◌≤◌}
use mathlib.Core.Bool.{Bool, true, false, cond, ◌&&◌}
use mathlib.Core.List.{List, [], ◌∷◌, ◌++◌, append_assoc, append-nil}
use mathlib.Core.Option.{Option, some, none, some-injective, none-ne-some}
use mathlib.Core.Path.{◌≡◌, refl, sym, ap, ◌∙◌}
use native.Mathlib.Nat.{pow-suc, suc-mul, zero-mul}
use native.Mathlib.Omega.{arith}
use borrow.Author.Tests.{lt-ltb, ltb-true, eq-eqb, eqb-true}
use lib.ListN.{length, take, drop, get_or, length-append, length-drop}
use lib.Dec.{eqb}
use lib.Seq.{get_or-drop, drop_at, take_at, take-add, take_all}
use mir.Val.{bool_byte, Fits}
use mir.Syntax.{w8}
use Rattle.std.specs.declared.option.Option.TheVariants.{Some}
use Rattle.fields.specs.Fields.{Field, bytes_of, little, number, choice, flag, below, bytes, both, put_all, get_all, good_all, many, standing, is_value, read, decode, value_from, value_into}
use Rattle.fields.specs.Laws.{AreBytes, AllFit, Lawful, Back, Only}

pub bytes_drop : (n : ℕ) (b : List ℕ) → AreBytes b → AreBytes (drop n b)
bytes_drop n b h = record { byte = λ i. rw get_or-drop (h.byte (n + i)) }

pub and_left : (x y : Bool) → (x && y) ≡ true → x ≡ true
and_left true y h = refl
and_left false y h = h

pub and_right : (x y : Bool) → (x && y) ≡ true → y ≡ true
and_right true y h = h
and_right false y h = let z : ◌≡◌ {A = ℕ} 0 1 = cc in absurd (none z)
  where
    none : ◌≡◌ {A = ℕ} 0 1 → ⊥
    none k = omega arith

-- ---- a number

abbrev pub InBytes : ℕ → ℕ → Type 0
InBytes w n = n < 256 ^ w

pub number_size : (w n : ℕ) → length (bytes_of w n) ≡ w
number_size zero n = refl
number_size (suc w) n = ap suc (number_size w (n / 256))

little_cons : (w i x : ℕ) (xs : List ℕ) → little w (suc i) (x ∷ xs) ≡ little w i xs
little_cons zero i x xs = refl
little_cons (suc w) i x xs = ap (λ (n : ℕ). get_or xs i 0 + 256 * n) (little_cons w (suc i) x xs)

number-back : (w n : ℕ) (r : List ℕ) → InBytes w n → little w 0 (bytes_of w n ++ r) ≡ n
number-back zero n r h = omega arith
number-back (suc w) n r h =
    let k : n / 256 < 256 ^ w = omega (arith, pow-suc 256 w) in
    let e : little w 0 (bytes_of w (n / 256) ++ r) ≡ n / 256 = number-back w (n / 256) r k in
    omega (arith, little_cons w 0 (n % 256) (bytes_of w (n / 256) ++ r))

number-only : (w : ℕ) (b : List ℕ) → AreBytes b → w ≤ length b → bytes_of w (little w 0 b) ≡ take w b
number-only zero b h l = refl
number-only (suc w) [] h l = absurd (none l)
  where
    none : suc w ≤ 0 → ⊥
    none k = omega arith
number-only (suc w) (x ∷ xs) h l =
    let v : ℕ = little w 0 xs in
    let low : (x + 256 * v) % 256 ≡ x = omega (arith, h.byte 0) in
    let high : (x + 256 * v) / 256 ≡ v = omega (arith, h.byte 0) in
    rw (little_cons w 0 x xs, low, high) (ap (λ (t : List ℕ). x ∷ t) (number-only w xs (bytes_drop 1 (x ∷ xs) h) (omega arith)))

-- a number of w bytes, from place i on, is below 256^w
pub number_small : (w i : ℕ) (b : List ℕ) → AreBytes b → little w i b < 256 ^ w
number_small zero i b h = omega arith
number_small (suc w) i b h = omega (arith, h.byte i, number_small w (suc i) b h, pow-suc 256 w)

pub number_lawful : (w : ℕ) → Lawful (number w) (InBytes w)
number_lawful w = record { size = λ n h. number_size w n; back = number-back w; passes = λ n r h. refl; only = λ b h l g. number-only w b h l }

-- ---- a choice

pub record Coded {A : Type 0} (count : ℕ) (code : A → ℕ) (of : ℕ → A) (Fits : A → Type 0) : Type 0 where
  pub below : (a : A) → Fits a → code a < count
  pub back : (a : A) → Fits a → of (code a) ≡ a
  pub only : (n : ℕ) → n < count → code (of n) ≡ n

abbrev pub Any : {A : Type 0} → A → Type 0
Any a = Unit {0}

pub all_any : {A : Type 0} (l : List A) → AllFit Any l
all_any [] = tt
all_any (x ∷ xs) = (tt, all_any xs)

pub choice_lawful : {A : Type 0} {F : A → Type 0} (count : ℕ) (code : A → ℕ) (of : ℕ → A) → Coded count code of F → Lawful (choice count code of) F
choice_lawful count code of c = record {
  size = λ a h. refl;
  back = λ a r h. c.back a h;
  passes = λ a r h. lt-ltb (code a) count (c.below a h);
  only = one;
}
  where
    one : (b : List ℕ) → AreBytes b → 1 ≤ length b → (choice count code of).good b ≡ true → (choice count code of).put ((choice count code of).get b) ≡ take 1 b
    one [] h l g = absurd (none l)
      where
        none : 1 ≤ 0 → ⊥
        none k = omega arith
    one (x ∷ xs) h l g = ap (λ (n : ℕ). n ∷ []) (c.only x (ltb-true x count g))

-- ---- a flag

pub flag-only : (n : ℕ) → n < 2 → bool_byte (eqb n 1) ≡ n
flag-only zero h = refl
flag-only (suc zero) h = refl
flag-only (suc (suc n)) h = absurd (omega arith)

flag_coded : Coded 2 bool_byte (λ n. eqb n 1) Any
flag_coded = record {
  below = elim [ true ↦ λ h. omega arith | false ↦ λ h. omega arith ];
  back = elim [ true ↦ λ h. refl | false ↦ λ h. refl ];
  only = flag-only;
}

pub flag_lawful : Lawful flag Any
flag_lawful = choice_lawful 2 bool_byte (λ n. eqb n 1) flag_coded

-- ---- a number below another

pub below_lawful : (n : ℕ) → n ≤ 256 → Lawful (below n) (λ x. x < n)
below_lawful n k = choice_lawful n (λ x. x % 256) (λ x. x) (record {
  below = λ x h. omega arith;
  back = λ x h. omega arith;
  only = λ x h. omega arith;
})

-- ---- bytes as they are

pub bytes_lawful : (n : ℕ) → Lawful (bytes n) (λ l. length l ≡ n)
bytes_lawful n = record {
  size = λ l h. h;
  back = λ l r h. take_at l r n h;
  passes = λ l r h. refl;
  only = λ b h l g. refl;
}

-- ---- one behind another

pair_eq : {A B : Type 0} {a c : A} {b d : B} → a ≡ c → b ≡ d → ◌≡◌ {A = A × B} (a, b) (c, d)
pair_eq {A} {B} {a} {c} {b} {d} p q = ap {B = A × B} (λ (x : A). (x, b)) p ∙ ap {B = A × B} (λ (y : B). (c, y)) q

and_both : {x y : Bool} → x ≡ true → y ≡ true → (x && y) ≡ true
and_both p q = rw (p, q)

-- what stands behind a value's bytes
module _ {A : Type 0} {f : Field A} {F : A → Type 0} (p : Lawful f F) (a : A) (more r : List ℕ) (h : F a) where
  first_of : f.get ((f.put a ++ more) ++ r) ≡ a
  first_of = ap f.get (append_assoc (f.put a) more r) ∙ p.back a (more ++ r) h

  first_good : f.good ((f.put a ++ more) ++ r) ≡ true
  first_good = ap f.good (append_assoc (f.put a) more r) ∙ p.passes a (more ++ r) h

  rest_of : drop f.width ((f.put a ++ more) ++ r) ≡ more ++ r
  rest_of = ap (drop f.width) (append_assoc (f.put a) more r) ∙ drop_at (f.put a) (more ++ r) f.width (p.size a h)

module _ {A B : Type 0} {f : Field A} {g : Field B} {F : A → Type 0} {G : B → Type 0} (p : Lawful f F) (q : Lawful g G) where
  pub both_lawful : Lawful (both f g) (λ t. F t.0 × G t.1)
  both_lawful = record {
    size = λ t h. length-append (f.put t.0) (g.put t.1) ∙ ap (λ (n : ℕ). n + length (g.put t.1)) (p.size t.0 h.0) ∙ ap (λ (n : ℕ). f.width + n) (q.size t.1 h.1);
    back = λ t r h.
        pair_eq (first_of p t.0 (g.put t.1) r h.0) (ap g.get (rest_of p t.0 (g.put t.1) r h.0) ∙ q.back t.1 r h.1);
    passes = λ t r h.
        and_both (first_good p t.0 (g.put t.1) r h.0) (ap g.good (rest_of p t.0 (g.put t.1) r h.0) ∙ q.passes t.1 r h.1);
    only = λ b h l k.
        ap (λ (x : List ℕ). x ++ g.put (g.get (drop f.width b))) (p.only b h (omega arith) (and_left (f.good b) (g.good (drop f.width b)) k))
        ∙ ap (λ (x : List ℕ). take f.width b ++ x)
        (q.only (drop f.width b) (bytes_drop f.width b h) (omega (arith, length-drop f.width b)) (and_right (f.good b) (g.good (drop f.width b)) k))
        ∙ sym (take-add f.width g.width b);
  }

-- ---- n times

module _ {A : Type 0} {f : Field A} {F : A → Type 0} (p : Lawful f F) where
  all-size : (n : ℕ) (l : List A) → length l ≡ n → AllFit F l → length (put_all f l) ≡ n * f.width
  unfolding put_all
  all-size zero [] e h = sym (zero-mul f.width)
  all-size zero (x ∷ xs) e h = absurd (none e)
    where
      none : suc (length xs) ≡ 0 → ⊥
      none k = omega arith
  all-size (suc n) [] e h = absurd (none e)
    where
      none : 0 ≡ suc n → ⊥
      none k = omega arith
  all-size (suc n) (x ∷ xs) e h =
      let i = all-size n xs (omega arith) h.1 in
      omega (arith, length-append (f.put x) (put_all f xs), p.size x h.0, suc-mul n f.width)

  all_back : (l : List A) (r : List ℕ) → AllFit F l → get_all f (length l) (put_all f l ++ r) ≡ l
  unfolding put_all get_all
  all_back [] r h = refl
  all_back (x ∷ xs) r h =
      ap (λ (y : A). y ∷ get_all f (length xs) (drop f.width ((f.put x ++ put_all f xs) ++ r))) (first_of p x (put_all f xs) r h.0)
      ∙ ap (λ (b : List ℕ). x ∷ get_all f (length xs) b) (rest_of p x (put_all f xs) r h.0)
      ∙ ap (λ (l : List A). x ∷ l) (all_back xs r h.1)

  all-passes : (l : List A) (r : List ℕ) → AllFit F l → good_all f (length l) (put_all f l ++ r) ≡ true
  unfolding put_all good_all
  all-passes [] r h = refl
  all-passes (x ∷ xs) r h =
      and_both (first_good p x (put_all f xs) r h.0) (ap (good_all f (length xs)) (rest_of p x (put_all f xs) r h.0) ∙ all-passes xs r h.1)

  all-only : (n : ℕ) (b : List ℕ) → AreBytes b → n * f.width ≤ length b → good_all f n b ≡ true → put_all f (get_all f n b) ≡ take (n * f.width) b
  unfolding put_all get_all good_all
  all-only zero b h l g = ap (λ (k : ℕ). take k b) (sym (zero-mul f.width))
  all-only (suc n) b h l g =
      let s : suc n * f.width ≡ f.width + n * f.width = omega (arith, suc-mul n f.width) in
      ap (λ (x : List ℕ). x ++ put_all f (get_all f n (drop f.width b))) (p.only b h (omega arith) (and_left (f.good b) (good_all f n (drop f.width b)) g))
      ∙ ap (λ (x : List ℕ). take f.width b ++ x)
      (all-only n (drop f.width b) (bytes_drop f.width b h) (omega (arith, length-drop f.width b)) (and_right (f.good b) (good_all f n (drop f.width b)) g))
      ∙ sym (take-add f.width (n * f.width) b)
      ∙ ap (λ (k : ℕ). take k b) (sym s)

  pub many_lawful : (n : ℕ) → Lawful (many f n) (λ l. (length l ≡ n) × AllFit F l)
  many_lawful n = record {
    size = λ l h. all-size n l h.0 h.1;
    back = λ l r h. ap (λ (k : ℕ). get_all f k (put_all f l ++ r)) (sym h.0) ∙ all_back l r h.1;
    passes = λ l r h. ap (λ (k : ℕ). good_all f k (put_all f l ++ r)) (sym h.0) ∙ all-passes l r h.1;
    only = all-only n;
  }

  pub standing_lawful : {B : Type 0} (to : B → A) (of : A → B) → ((x : B) → of (to x) ≡ x) → ((t : A) → to (of t) ≡ t) → Lawful (standing f to of) (λ x. F (to x))
  standing_lawful to of d e = record {
    size = λ x h. p.size (to x) h;
    back = λ x r h. ap of (p.back (to x) r h) ∙ d x;
    passes = λ x r h. p.passes (to x) r h;
    only = λ b h l g. ap f.put (e (f.get b)) ∙ p.only b h l g;
  }

-- ---- a field alone

pub value-length : {A : Type 0} (f : Field A) (b : List ℕ) → is_value f b ≡ true → length b ≡ f.width
value-length f b h = eqb-true (length b) f.width (and_left _ (f.good b) h)

value-some : {A : Type 0} (f : Field A) (b : List ℕ) → is_value f b ≡ true → decode f b ≡ some (f.get b)
value-some {A} f b h = ap {B = Option A} (λ (t : Bool). cond t (some (f.get b)) none) h

pub value_none : {A : Type 0} (f : Field A) (b : List ℕ) → is_value f b ≡ false → decode f b ≡ none
value_none {A} f b h = ap {B = Option A} (λ (t : Bool). cond t (some (f.get b)) none) h

-- the value that code read from a value's bytes, and the bytes that it put
pub value_read : {A : Type 0} (f : Field A) (d : A) (b : List ℕ) (x : A) → is_value f b ≡ true → x ≡ value_from f d b → decode f b ≡ some x
value_read {A} f d b x h e =
    let from : value_from f d b ≡ f.get b = rw (eq-eqb _ _ (value-length f b h)) in
    value-some f b h ∙ ap {B = Option A} some (sym (e ∙ from))

pub value-put : {A : Type 0} (f : Field A) (b b' : List ℕ) (x : A) → length b ≡ f.width → b' ≡ value_into f b x → b' ≡ f.put x
value-put f b b' x l e =
    let into : value_into f b x ≡ f.put x = rw (eq-eqb _ _ l) in
    e ∙ into

pub record Decoded {A : Type 0} (f : Field A) (b : List ℕ) (x : A) : Type 0 where
  pub good : is_value f b ≡ true
  pub is : f.get b ≡ x

pub decoded : {A : Type 0} (f : Field A) (b : List ℕ) (x : A) → decode f b ≡ some x → Decoded f b x
decoded f b x e = by (is_value f b) refl e
  where
    by : (t : Bool) → is_value f b ≡ t → cond t (some (f.get b)) none ≡ some x → Decoded f b x
    by true g h = record { good = g; is = some-injective (f.get b) x h }
    by false g h = absurd (none-ne-some x h)

module _ {A : Type 0} {f : Field A} {F : A → Type 0} (p : Lawful f F) where
  pub back : Back f F
  back x h =
      let b : List ℕ = f.put x in
      let g : f.good b ≡ true = ap f.good (sym (append-nil b)) ∙ p.passes x [] h in
      let v : f.get b ≡ x = ap f.get (sym (append-nil b)) ∙ p.back x [] h in
      ap (λ (t : Bool). cond (t && f.good b) (some (f.get b)) none) (eq-eqb (length b) f.width (p.size x h))
      ∙ ap (λ (t : Bool). cond t (some (f.get b)) none) g
      ∙ ap {B = Option A} some v

  encoded : (b : List ℕ) → AreBytes b → is_value f b ≡ true → f.put (f.get b) ≡ b
  encoded b h e =
      let l = value-length f b e in
      p.only b h (omega arith) (and_right (eqb (length b) f.width) (f.good b) e) ∙ take_all f.width b (omega arith)

  pub only : Only f
  only b x h e =
      let d = decoded f b x e in
      sym (encoded b h d.good) ∙ ap f.put d.is

  -- what code answers for bytes that it judged a value's: the value, and they are its bytes
  pub answered : (b : List ℕ) (x : A) → ((i : ℕ) → Fits w8 (get_or b i 0)) → decode f b ≡ some x → record { value : read (Some x) ≡ decode f b; bytes : b ≡ f.put x }
  unfolding read
  answered b x h e = record { value = sym e; bytes = only b x (record { byte = λ i. omega (arith, h i) }) e }
