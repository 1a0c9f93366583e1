-- The keys of a row by their indexes: a key stands among them if it is equal to one, and twice if two of them are equal.
-- Assumes nothing.
use mathlib.Core.Path.{◌≡◌, refl, ap}
use mathlib.Core.Bool.{true, false, or-true}
use mathlib.Core.List.{List, [], ◌∷◌}
use Prim.Native.Nat.{ℕ, zero, suc, ◌≤◌, ◌<◌}
use native.Mathlib.Omega.{arith}
use lib.ListN.{length, get_or}
use Rattle.keys.specs.Keys.{equal, among, twice, keys_at}
use Rattle.double_keys.specs.Row.{kept}
use Rattle.double_keys.specs.Search.{key_of}

-- the key at an index of a list
abbrev pub nth : List (List ℕ) → ℕ → List ℕ
nth ks i = get_or ks i []

among_none : (ks : List (List ℕ)) (x : List ℕ) → ((j : ℕ) → j < length ks → equal x (nth ks j) ≡ false) → among ks x ≡ false
unfolding among
among_none [] x f = refl
among_none (k ∷ ks) x f = rw (f 0 (omega arith)) (among_none ks x (λ j h. f (suc j) (omega arith)))

among_one : (ks : List (List ℕ)) (x : List ℕ) (j : ℕ) → j < length ks → equal x (nth ks j) ≡ true → among ks x ≡ true
unfolding among
among_one [] x j h e = absurd (omega arith)
among_one (k ∷ ks) x zero h e = rw e
among_one (k ∷ ks) x (suc j) h e = rw (among_one ks x j (omega arith) e, or-true)

twice-none : (ks : List (List ℕ)) → ((t u : ℕ) → t < u → u < length ks → equal (nth ks t) (nth ks u) ≡ false) → twice ks ≡ false
unfolding twice
twice-none [] f = refl
twice-none (k ∷ ks) f =
    rw (among_none ks k (λ j h. f 0 (suc j) (omega arith) (omega arith)))
    (twice-none ks (λ t u l h. f (suc t) (suc u) (omega arith) (omega arith)))

pub twice-pair : (ks : List (List ℕ)) (t u : ℕ) → t < u → u < length ks → equal (nth ks t) (nth ks u) ≡ true → twice ks ≡ true
unfolding twice
twice-pair [] t u l h e = absurd (omega arith)
twice-pair (k ∷ ks) t zero l h e = absurd (omega arith)
twice-pair (k ∷ ks) zero (suc u) l h e = rw (among_one ks k u (omega arith) e)
twice-pair (k ∷ ks) (suc t) (suc u) l h e = rw (twice-pair ks t u (omega arith) (omega arith) e, or-true)

-- the first n keys of a row
kept-long : (s starts stops : List ℕ) (n : ℕ) → n ≤ length starts → n ≤ length stops → length (kept s starts stops n) ≡ n
unfolding kept keys_at
kept-long s starts stops zero h k = refl
kept-long s [] stops (suc n) h k = absurd (omega arith)
kept-long s (a ∷ starts) [] (suc n) h k = absurd (omega arith)
kept-long s (a ∷ starts) (b ∷ stops) (suc n) h k = ap suc (kept-long s starts stops n (omega arith) (omega arith))

kept_at : (s starts stops : List ℕ) (n : ℕ) → n ≤ length starts → n ≤ length stops → (i : ℕ) → i < n → nth (kept s starts stops n) i ≡ key_of s starts stops i
unfolding kept keys_at key_of
kept_at s starts stops zero h k i l = absurd (omega arith)
kept_at s [] stops (suc n) h k i l = absurd (omega arith)
kept_at s (a ∷ starts) [] (suc n) h k i l = absurd (omega arith)
kept_at s (a ∷ starts) (b ∷ stops) (suc n) h k zero l = refl
kept_at s (a ∷ starts) (b ∷ stops) (suc n) h k (suc i) l = kept_at s starts stops n (omega arith) (omega arith) i (omega arith)

module _ (s starts stops : List ℕ) (n : ℕ) (a : n ≤ length starts) (b : n ≤ length stops) where
  long : length (kept s starts stops n) ≡ n
  long = kept-long s starts stops n a b

  at : (i : ℕ) → i < n → nth (kept s starts stops n) i ≡ key_of s starts stops i
  at = kept_at s starts stops n a b

  pub kept-none : (x : List ℕ) → ((j : ℕ) → j < n → equal x (key_of s starts stops j) ≡ false) → among (kept s starts stops n) x ≡ false
  kept-none x f = among_none (kept s starts stops n) x (λ j h. let l : j < n = omega (arith, long) in rw (at j l) (f j l))

  pub kept-one : (x : List ℕ) (j : ℕ) → j < n → equal x (key_of s starts stops j) ≡ true → among (kept s starts stops n) x ≡ true
  kept-one x j h e = among_one (kept s starts stops n) x j (omega (arith, long)) (rw (at j h) e)

  pub kept-single : ((t u : ℕ) → t < u → u < n → equal (key_of s starts stops t) (key_of s starts stops u) ≡ false) → twice (kept s starts stops n) ≡ false
  kept-single f =
      twice-none (kept s starts stops n) (λ t u l h.
      let w : u < n = omega (arith, long) in
      rw (at t (omega arith), at u w) (f t u l w))

  pub kept_pair : (t u : ℕ) → t < u → u < n → equal (key_of s starts stops t) (key_of s starts stops u) ≡ true → twice (kept s starts stops n) ≡ true
  kept_pair t u l h e = twice-pair (kept s starts stops n) t u l (omega (arith, long)) (rw (at t (omega arith), at u h) e)
