-- The order of keys: by lengths, then by bytes. It is strict, and two keys stand at one place in it only if they are equal.
-- Assumes nothing.
use mathlib.Core.Path.{◌≡◌, refl, sym, ◌∙◌}
use mathlib.Core.Bool.{Bool, true, false, cond}
use mathlib.Core.List.{List, [], ◌∷◌}
use Prim.Native.Nat.{ℕ, suc, ◌+◌, ◌≤◌, ◌<◌}
use native.Mathlib.Numerals.{add-one}
use native.Mathlib.Omega.{arith}
use lib.Dec.{ltb}
use lib.ListN.{length, drop, get_or, drop_of_length-le}
use lib.Seq.{drop-cons}
use borrow.Author.Tests.{ltb-true, ltb-false}
use Rattle.std.specs.declared.cmp.Ordering.{Ordering}
use Rattle.std.specs.declared.cmp.Ordering.TheVariants.{Less, Equal, Greater}
use Rattle.std.specs.Ordering.{is_eq, ordering_then, nat_cmp}
use Rattle.std.specs.Cmp.{nat_cmp_is}
use Rattle.std.proofs.lemmas.Map.Lookups.{exact_unsigned}
use Rattle.keys.specs.Keys.{equal}
use Rattle.keys.specs.Order.{by_number, by_bytes, compare, same, SameIsEqual}
use Rattle.keys.proofs.Equal.{equal-true, equal-refl, equal-sym}

-- of keys of one length, the first stands before the second
pub data Lower : List ℕ → List ℕ → Type 0 where
  here : {x y : ℕ} {a b : List ℕ} → x < y → Lower (x ∷ a) (y ∷ b)
  there : {x y : ℕ} {a b : List ℕ} → x ≡ y → Lower a b → Lower (x ∷ a) (y ∷ b)

-- a key stands before another
pub data Precedes (a b : List ℕ) : Type 0 where
  shorter : length a < length b → Precedes a b
  lower : length a ≡ length b → Lower a b → Precedes a b

lower_trans : (a b c : List ℕ) → Lower a b → Lower b c → Lower a c
lower_trans (x ∷ a) (y ∷ b) (z ∷ c) (here h) (here k) = let l : x < z = omega arith in here l
lower_trans (x ∷ a) (y ∷ b) (z ∷ c) (here h) (there e k) = let l : x < z = omega arith in here l
lower_trans (x ∷ a) (y ∷ b) (z ∷ c) (there e h) (here k) = let l : x < z = omega arith in here l
lower_trans (x ∷ a) (y ∷ b) (z ∷ c) (there e h) (there f k) = there (e ∙ f) (lower_trans a b c h k)
lower_trans [] b c h _ = elim h [ ]
lower_trans (x ∷ a) [] c h _ = elim h [ ]
lower_trans (x ∷ a) (y ∷ b) [] _ h = elim h [ ]

lower-not : (a : List ℕ) → Lower a a → ⊥
lower-not (x ∷ a) (here h) = omega arith
lower-not (x ∷ a) (there e h) = lower-not a h
lower-not [] h = elim h [ ]

pub less_trans : (a b c : List ℕ) → Precedes a b → Precedes b c → Precedes a c
less_trans a b c (shorter h) (shorter k) = shorter (omega arith)
less_trans a b c (shorter h) (lower e k) = shorter (omega arith)
less_trans a b c (lower e h) (shorter k) = shorter (omega arith)
less_trans a b c (lower e h) (lower f k) = lower (e ∙ f) (lower_trans a b c h k)

less-not : (a : List ℕ) → Precedes a a → ⊥
less-not a (shorter h) = omega arith
less-not a (lower e h) = lower-not a h

-- keys of which one stands before the other are not equal
pub less_differs : (a b : List ℕ) → Precedes a b → equal a b ≡ false
less_differs a b h = by (equal a b) refl
  where
    by : (t : Bool) → equal a b ≡ t → equal a b ≡ false
    by true e = absurd (less-not a (rw (← equal-true a b e) at h))
    by false e = e

-- what the comparison says
abbrev Says : Type 0 → Type 0 → Type 0 → Ordering → Type 0
Says L E G Less = L
Says L E G Equal = E
Says L E G Greater = G

-- two numbers, and what decides between equal ones
by_number_lem : (L E G : Type 0) (m n : ℕ) (d : Ordering) → (m < n → L) → (m ≡ n → Says L E G d) → (n < m → G) → Says L E G (by_number m n d)
by_number_lem L E G m n d f g h = by (ltb m n) refl (ltb n m) refl
  where
    by : (t : Bool) → ltb m n ≡ t → (u : Bool) → ltb n m ≡ u → Says L E G (cond t Less (cond u Greater d))
    by true p u q = f (ltb-true m n p)
    by false p true q = h (ltb-true n m q)
    by false p false q =
        let i = ltb-false m n p in
        let j = ltb-false n m q in
        g (omega arith)

mapped : {L E G L' E' G' : Type 0} (d : Ordering) → (L → L') → (E → E') → (G → G') → Says L E G d → Says L' E' G' d
mapped Less f g h x = f x
mapped Equal f g h x = g x
mapped Greater f g h x = h x

cons_same : {x y : ℕ} {a b : List ℕ} → x ≡ y → a ≡ b → x ∷ a ≡ y ∷ b
cons_same e f = rw (e, f)

lower-says : (a b : List ℕ) → length a ≡ length b → Says (Lower a b) (a ≡ b) (Lower b a) (by_bytes a b)
unfolding by_bytes
lower-says [] [] h = refl
lower-says [] (y ∷ b) h = absurd (omega arith)
lower-says (x ∷ a) [] h = absurd (omega arith)
lower-says (x ∷ a) (y ∷ b) h =
    by_number_lem _ _ _ x y (by_bytes a b) here
    (λ e. mapped (by_bytes a b) (there e) (cons_same e) (there (sym e)) (lower-says a b (omega arith)))
    here

pub compare-says : (a b : List ℕ) → Says (Precedes a b) (a ≡ b) (Precedes b a) (compare a b)
unfolding compare
compare-says a b =
    by_number_lem _ _ _ (length a) (length b) (by_bytes a b) shorter
    (λ e. mapped (by_bytes a b) (lower e) (λ f. f) (lower (sym e)) (lower-says a b e))
    shorter

-- by what the comparison answers
module _ (a b : List ℕ) where
  pub before : compare a b ≡ Less → Precedes a b
  before h = rw h at (compare-says a b)

  pub at_one : compare a b ≡ Equal → a ≡ b
  at_one h = rw h at (compare-says a b)

  pub after : compare a b ≡ Greater → Precedes b a
  after h = rw h at (compare-says a b)

  pub is-before : Precedes a b → compare a b ≡ Less
  is-before l = by (compare a b) refl
    where
      by : (o : Ordering) → compare a b ≡ o → compare a b ≡ Less
      by Less h = h
      by Equal h = absurd (less-not a (rw (← at_one h) at l))
      by Greater h = absurd (less-not a (less_trans a b a l (after h)))

-- the comparison that goes by the lengths first is equality by content
pub same-is-equal : SameIsEqual
unfolding same
same-is-equal a b = by (compare a b) refl
  where
    by : (o : Ordering) → compare a b ≡ o → is_eq o ≡ equal a b
    by Less h = sym (less_differs a b (before a b h))
    by Equal h = sym (rw (at_one a b h) (equal-refl b))
    by Greater h = sym (equal-sym a b ∙ less_differs b a (after a b h))

-- the library's comparison of numbers, and what decides between equal ones
by_cmp : (m n : ℕ) (d : Ordering) → by_number m n d ≡ ordering_then (nat_cmp m n) d
by_cmp m n d = by (ltb m n) refl (ltb n m) refl
  where
    by : (t : Bool) → ltb m n ≡ t → (u : Bool) → ltb n m ≡ u → cond t Less (cond u Greater d) ≡ ordering_then (nat_cmp m n) d
    by true p u q = rw (← nat_cmp_is m n Less (ltb-true m n p))
    by false p true q = rw (← nat_cmp_is m n Greater (ltb-true n m q))
    by false p false q =
        let i = ltb-false m n p in
        let j = ltb-false n m q in
        let e : m ≡ n = omega arith in
        rw (← nat_cmp_is m n Equal e)

-- an answer that is not Equal decides
pub decides : (o d : Ordering) → (o ≡ Equal → ⊥) → ordering_then o d ≡ o
decides Less d h = refl
decides Equal d h = absurd (h refl)
decides Greater d h = refl

-- the loop over the bytes: what follows the i bytes passed decides, its first byte if the two differ, and else what follows that
module _ (a b : List ℕ) (i : ℕ) (long : length a ≡ length b) where
  step : i < length a → by_bytes (drop i a) (drop i b) ≡ ordering_then (nat_cmp (get_or a i 0) (get_or b i 0)) (by_bytes (drop (i + 1) a) (drop (i + 1) b))
  unfolding by_bytes
  step h =
      let k : i < length b = omega arith in
      rw (add-one, drop-cons a i 0 h, drop-cons b i 0 k) (by_cmp (get_or a i 0) (get_or b i 0) (by_bytes (drop (suc i) a) (drop (suc i) b)))

  pub differs : i < length a → (get_or a i 0 ≡ get_or b i 0 → ⊥) → nat_cmp (get_or a i 0) (get_or b i 0) ≡ by_bytes (drop i a) (drop i b)
  differs h n = sym (step h ∙ decides _ _ (λ e. n (exact_unsigned (get_or a i 0) (get_or b i 0) e)))

  pub agrees : i < length a → get_or a i 0 ≡ get_or b i 0 → by_bytes (drop i a) (drop i b) ≡ by_bytes (drop (i + 1) a) (drop (i + 1) b)
  agrees h e = step h ∙ rw (← nat_cmp_is (get_or a i 0) (get_or b i 0) Equal e)

  -- where no byte is left, the bytes decide nothing
  pub all-agree : length a ≤ i → by_bytes (drop i a) (drop i b) ≡ Equal
  unfolding by_bytes
  all-agree h = rw (drop_of_length-le a h)

-- the lengths first
pub by-lengths : (a b : List ℕ) → compare a b ≡ ordering_then (nat_cmp (length a) (length b)) (by_bytes a b)
unfolding compare
by-lengths a b = by_cmp (length a) (length b) (by_bytes a b)
