-- A key looked for by halves among keys that stand in order, the greatest first.
-- Assumes nothing.
use mathlib.Core.Path.{◌≡◌, refl, ◌∙◌}
use mathlib.Core.Bool.{Bool, true, false}
use mathlib.Core.List.{List}
use Prim.Native.Nat.{ℕ, ◌+◌, ◌≤◌, ◌<◌}
use native.Mathlib.Omega.{arith}
use lib.ListN.{get_or}
use lib.Dec.{ltb}
use borrow.Author.Tests.{ltb-true, ltb-false}
use Rattle.std.specs.declared.cmp.Ordering.TheVariants.{Less, Greater}
use Rattle.keys.specs.Keys.{equal}
use Rattle.keys.specs.Order.{compare}
use Rattle.keys.proofs.Equal.{equal-sym}
use Rattle.keys.proofs.Before.{Precedes, less_trans, less_differs, before, after}
use Rattle.double_keys.specs.Search.{key_of}

module _ (s starts stops row : List ℕ) where
  -- the key whose place stands at index t of the row
  abbrev pub key_in : ℕ → List ℕ
  key_in t = key_of s starts stops (get_or row t 0)

  -- of k keys, each stands after the ones behind it
  abbrev pub Falls : ℕ → Type 0
  Falls k = (t u : ℕ) → t < u → u < k → compare (key_in u) (key_in t) ≡ Less

  -- a key stands before those below index low, and after those from index high on
  pub record Between (k : ℕ) (key : List ℕ) (low high : ℕ) : Type 0 where
    pub across : low ≤ high
    pub upto : high ≤ k
    pub greater : (t : ℕ) → t < low → Precedes key (key_in t)
    pub lesser : (t : ℕ) → high ≤ t → t < k → Precedes (key_in t) key

  pub between-all : (k : ℕ) (key : List ℕ) → Between k key 0 k
  between-all k key = record { across = omega arith; upto = omega arith; greater = λ t l. absurd (omega arith); lesser = λ t l m. absurd (omega arith) }

  module _ (k : ℕ) (falls : Falls k) (key : List ℕ) (low high : ℕ) (b : Between k key low high) where
    fall : (t u : ℕ) → t < u → u < k → Precedes (key_in u) (key_in t)
    fall t u l h = before (key_in u) (key_in t) (falls t u l h)

    pub between-low : (mid : ℕ) → mid < high → compare key (key_in mid) ≡ Less → Between k key (mid + 1) high
    between-low mid h e = record { across = omega arith; upto = b.upto; greater = λ t m. by t m (ltb t mid) refl; lesser = b.lesser }
      where
        less : Precedes key (key_in mid)
        less = before key (key_in mid) e

        by : (t : ℕ) → t < mid + 1 → (a : Bool) → ltb t mid ≡ a → Precedes key (key_in t)
        by t m true f = less_trans key (key_in mid) (key_in t) less (fall t mid (ltb-true t mid f) (omega (arith, b.upto)))
        by t m false f = let g = ltb-false t mid f in let q : t ≡ mid = omega arith in rw q less

    pub between-high : (mid : ℕ) → low ≤ mid → mid < high → compare key (key_in mid) ≡ Greater → Between k key low mid
    between-high mid w h e = record { across = w; upto = omega (arith, b.upto); greater = b.greater; lesser = λ t m u. by t m u (ltb mid t) refl }
      where
        less : Precedes (key_in mid) key
        less = after key (key_in mid) e

        by : (t : ℕ) → mid ≤ t → t < k → (a : Bool) → ltb mid t ≡ a → Precedes (key_in t) key
        by t m u true f = less_trans (key_in t) (key_in mid) key (fall mid t (ltb-true mid t f) u) less
        by t m u false f = let g = ltb-false mid t f in let q : t ≡ mid = omega arith in rw q less

    -- where nothing is left between, the key is none of them
    pub other : high ≤ low → (t : ℕ) → t < k → equal key (key_in t) ≡ false
    other c t h = by (ltb t low) refl
      where
        by : (a : Bool) → ltb t low ≡ a → equal key (key_in t) ≡ false
        by true e = less_differs key (key_in t) (b.greater t (ltb-true t low e))
        by false e =
            let f = ltb-false t low e in
            equal-sym key (key_in t) ∙ less_differs (key_in t) key (b.lesser t (omega arith) h)
