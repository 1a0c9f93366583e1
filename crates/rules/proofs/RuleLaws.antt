-- Rules by their numbers: what the first broken rule tells of the others. Assumes nothing.
use Prim.Native.Nat.{ℕ, suc, ◌≤◌}
use mathlib.Core.Path.{◌≡◌, refl}
use mathlib.Core.Bool.{Bool, true, false, cond, ◌&&◌, false≢true}
use mathlib.Core.List.{List, [], ◌∷◌, ◌++◌}
use lib.Dec.{leb, eqb}
use borrow.Author.Tests.{eqb-false, leb-true}
use native.Mathlib.Omega.{arith}
use Rattle.frame.specs.Frame.{Frame}
use Rattle.rules.specs.Rules.{View, Rule, first_broken}
use Rattle.std.specs.Prelude.{Result, Ok, Err}
use Rattle.rules.specs.declared.Rule as code
use Rattle.rules.specs.declared.Rule.TheVariants.{LongPayload, EvenRequest, EvenStream, HighStreamFlag, OtherType, ClosedStream, OpenStream, BrokenFlags, ActiveRequest, NoFreeSlot, NotCollecting, OtherDataBit, LongCommand, NotItem, NotCommand, DoubleKey, NoDataTaken, SettingsNotFirst, NotIdentity}
use Rattle.rules.specs.Stages.{number_of, broken_of, first_of}
use Rattle.rules.proofs.Bools.{and_l, and_r}

zero_ne_suc : (n : ℕ) → 0 ≡ suc n → ⊥
zero_ne_suc n e = omega arith

-- rule k's test
abbrev pub numbered : List Rule → ℕ → Frame → View → Bool
numbered [] k f v = false
numbered (x ∷ xs) k f v = elim (eqb x.number k) [ true ↦ x.broken f v | false ↦ numbered xs k f v ]

-- rule k stands in the list, and n not before it
abbrev pub precedes : List Rule → ℕ → ℕ → Bool
precedes [] k n = false
precedes (x ∷ xs) k n = elim (eqb x.number n) [ true ↦ false | false ↦ elim (eqb x.number k) [ true ↦ true | false ↦ precedes xs k n ] ]

-- every number of the list lies from lo to hi
abbrev pub within : ℕ → ℕ → List Rule → Bool
within lo hi [] = true
within lo hi (x ∷ xs) = leb lo x.number && leb x.number hi && within lo hi xs

-- one rule of the list: t, i, j tell whether it is broken, is rule n, is rule k
one : (t i j : Bool) (num n first : ℕ) (later rest : Bool) → eqb num n ≡ i → (later ≡ true → first ≡ n → rest ≡ false)
    → elim i [ true ↦ false | false ↦ elim j [ true ↦ true | false ↦ later ] ] ≡ true
    → elim t [ true ↦ num | false ↦ first ] ≡ n
    → elim j [ true ↦ t | false ↦ rest ] ≡ false
one t true j num n first later rest ei ih p e = absurd (false≢true p)
one true false j num n first later rest ei ih p e = absurd (eqb-false num n ei e)
one false false true num n first later rest ei ih p e = refl
one false false false num n first later rest ei ih p e = ih p e

-- no rule has the number 0
counts : (x : Rule) (xs : List Rule) (lo hi : ℕ) → 1 ≤ lo → within lo hi (x ∷ xs) ≡ true → 1 ≤ x.number
counts x xs lo hi l h =
    omega (arith, leb-true lo x.number (and_l (leb lo x.number) (leb x.number hi) (and_l (leb lo x.number && leb x.number hi) (within lo hi xs) h)))

module _ (f : Frame) (v : View) where
  -- the rules before the first broken one hold
  pub passed : (xs : List Rule) (k n : ℕ) → precedes xs k n ≡ true → first_broken xs f v ≡ n → numbered xs k f v ≡ false
  unfolding first_broken
  passed [] k n p e = absurd (false≢true p)
  passed (x ∷ xs) k n p e =
      one (x.broken f v) (eqb x.number n) (eqb x.number k) x.number n (first_broken xs f v) (precedes xs k n) (numbered xs k f v)
      refl (passed xs k n) p e

  pub in_range : (xs : List Rule) (lo hi n : ℕ) → within lo hi xs ≡ true → first_broken xs f v ≡ suc n → (lo ≤ suc n) × (suc n ≤ hi)
  unfolding first_broken
  in_range [] lo hi n h e = absurd (zero_ne_suc n e)
  in_range (x ∷ xs) lo hi n h e = go (x.broken f v) (in_range xs lo hi n (and_r (leb lo x.number && leb x.number hi) (within lo hi xs) h)) e
    where
      here : (lo ≤ x.number) × (x.number ≤ hi)
      here =
          let a : (leb lo x.number && leb x.number hi) ≡ true = and_l (leb lo x.number && leb x.number hi) (within lo hi xs) h in
          (leb-true lo x.number (and_l (leb lo x.number) (leb x.number hi) a), leb-true x.number hi (and_r (leb lo x.number) (leb x.number hi) a))

      go : (t : Bool) → (first_broken xs f v ≡ suc n → (lo ≤ suc n) × (suc n ≤ hi)) → elim t [ true ↦ x.number | false ↦ first_broken xs f v ] ≡ suc n → (lo ≤ suc n) × (suc n ≤ hi)
      go true ih q = rw q at here
      go false ih q = ih q

  -- where the first rules hold, the others tell
  pub first_rest : (xs ys : List Rule) (lo hi : ℕ) → 1 ≤ lo → within lo hi xs ≡ true → first_broken xs f v ≡ 0 → first_broken (xs ++ ys) f v ≡ first_broken ys f v
  unfolding first_broken
  first_rest [] ys lo hi l h e = refl
  first_rest (x ∷ xs) ys lo hi l h e = go (x.broken f v) (first_rest xs ys lo hi l (and_r (leb lo x.number && leb x.number hi) (within lo hi xs) h)) e
    where
      go : (t : Bool) → (first_broken xs f v ≡ 0 → first_broken (xs ++ ys) f v ≡ first_broken ys f v) → ◌≡◌ {A = ℕ} (elim t as (λ _. ℕ) [ true ↦ x.number | false ↦ first_broken xs f v ]) 0
          → ◌≡◌ {A = ℕ} (elim t as (λ _. ℕ) [ true ↦ x.number | false ↦ first_broken (xs ++ ys) f v ]) (first_broken ys f v)
      go true ih q = absurd (none q (counts x xs lo hi l h))
        where
          none : x.number ≡ 0 → 1 ≤ x.number → ⊥
          none q k = omega arith
      go false ih q = ih q

  pub first-among : (xs ys : List Rule) → (first_broken xs f v ≡ 0 → ⊥) → first_broken (xs ++ ys) f v ≡ first_broken xs f v
  unfolding first_broken
  first-among [] ys h = absurd (h refl)
  first-among (x ∷ xs) ys h = go (x.broken f v) (λ k. first-among xs ys k) h
    where
      go : (t : Bool) → ((first_broken xs f v ≡ 0 → ⊥) → first_broken (xs ++ ys) f v ≡ first_broken xs f v) → (◌≡◌ {A = ℕ} (elim t as (λ _. ℕ) [ true ↦ x.number | false ↦ first_broken xs f v ]) 0 → ⊥)
          → ◌≡◌ {A = ℕ} (elim t as (λ _. ℕ) [ true ↦ x.number | false ↦ first_broken (xs ++ ys) f v ]) (elim t as (λ _. ℕ) [ true ↦ x.number | false ↦ first_broken xs f v ])
      go true ih k = refl
      go false ih k = ih k

-- ---- a table of tests with their rules

-- the tests with their numbers, of a table and of the rules themselves
abbrev pub numbers : List (Bool × code.Rule) → List (Bool × ℕ)
numbers [] = []
numbers (x ∷ xs) = (x.0, number_of x.1) ∷ numbers xs

abbrev pub tests : Frame → View → List Rule → List (Bool × ℕ)
tests f v [] = []
tests f v (x ∷ xs) = (x.broken f v, x.number) ∷ tests f v xs

abbrev pub first_number : List (Bool × ℕ) → ℕ
first_number [] = 0
first_number (x ∷ xs) = cond x.0 x.1 (first_number xs)

-- one rule more in front
more : (t : Bool) (r : code.Rule) (later : Result Unit code.Rule) (n : ℕ) → broken_of later ≡ n → broken_of (cond t (Err r) later) ≡ cond t (number_of r) n
more true r later n e = refl
more false r later n e = e

pub table-first : (xs : List (Bool × code.Rule)) → broken_of (first_of xs) ≡ first_number (numbers xs)
unfolding first_of
table-first [] = refl
table-first (x ∷ xs) = more x.0 x.1 _ _ (table-first xs)

rule_more : (t : Bool) (n a b : ℕ) → a ≡ b → elim t as (λ _. ℕ) [ true ↦ n | false ↦ a ] ≡ cond t n b
rule_more true n a b e = refl
rule_more false n a b e = e

pub rules-first : (f : Frame) (v : View) (xs : List Rule) → first_broken xs f v ≡ first_number (tests f v xs)
unfolding first_broken
rules-first f v [] = refl
rules-first f v (x ∷ xs) = rule_more (x.broken f v) x.number _ _ (rules-first f v xs)

-- ---- an answer and its number

pub number-some : (r : code.Rule) → number_of r ≡ 0 → ⊥
number-some LongPayload e = cc
number-some EvenRequest e = cc
number-some EvenStream e = cc
number-some HighStreamFlag e = cc
number-some OtherType e = cc
number-some ClosedStream e = cc
number-some OpenStream e = cc
number-some BrokenFlags e = cc
number-some ActiveRequest e = cc
number-some NoFreeSlot e = cc
number-some NotCollecting e = cc
number-some OtherDataBit e = cc
number-some LongCommand e = cc
number-some NotItem e = cc
number-some NotCommand e = cc
number-some DoubleKey e = cc
number-some NoDataTaken e = cc
number-some SettingsNotFirst e = cc
number-some NotIdentity e = cc

pub ok-zero : (r : Result Unit code.Rule) → ((e : code.Rule) → r ≡ Err e → ⊥) → broken_of r ≡ 0
ok-zero (Ok u) h = refl
ok-zero (Err e) h = absurd (h e refl)
