-- A row that is filled from its start: after i stores it is the first i new elements, and the old ones from i on. And what a call answers,
-- by its number: a row that is refused stays, and one that is not has eight places. Assumes nothing.
use mathlib.Core.Path.{◌≡◌, refl, ap}
use mathlib.Core.Bool.{Bool, true, false, cond}
use mathlib.Core.List.{List, [], ◌∷◌, ◌++◌}
use Prim.Native.Nat.{ℕ, zero, suc, ◌≤◌, ◌<◌}
use native.Mathlib.Nat.{le_of_suc-le-suc, not-suc-le-zero}
use native.Mathlib.Omega.{arith}
use lib.ListN.{length, take, drop, get_or, set}
use lib.Dec.{ltb}
use borrow.Author.Tests.{ltb-false, ne_eqb}
use Rattle.frame.specs.Limits.{slot_count}
use Rattle.channel.specs.declared.Channel.{Channel}
use Rattle.channel.specs.Channel.{plain_shape}
use Rattle.std.specs.Prelude.{Result, Ok, Err}
use Rattle.status.specs.declared.Refusal.{Refusal}
use Rattle.status.specs.declared.Refusal.TheVariants.{NotInShape, ShortRow}
use Rattle.status.specs.Row.{refusal_of, refused_by, shown, row_number, filled_if}

module _ {A : Type 0} where
  abbrev pub up_to : List A → List A → ℕ → List A
  up_to new old i = take i new ++ drop i old

  -- one store more
  pub up_step : (new old : List A) (i : ℕ) (d : A) → i < length new → i < length old → set (up_to new old i) i (get_or new i d) ≡ up_to new old (suc i)
  up_step [] old i d h g = absurd (not-suc-le-zero h)
  up_step (x ∷ new) [] i d h g = absurd (not-suc-le-zero g)
  up_step (x ∷ new) (y ∷ old) zero d h g = refl
  up_step (x ∷ new) (y ∷ old) (suc i) d h g = ap (λ (l : List A). x ∷ l) (up_step new old i d (le_of_suc-le-suc h) (le_of_suc-le-suc g))

  pub up-length : (new old : List A) (i : ℕ) → i ≤ length new → i ≤ length old → length (up_to new old i) ≡ length old
  up-length new old zero h g = refl
  up-length [] old (suc i) h g = absurd (not-suc-le-zero h)
  up-length (x ∷ new) [] (suc i) h g = absurd (not-suc-le-zero g)
  up-length (x ∷ new) (y ∷ old) (suc i) h g = ap suc (up-length new old i (le_of_suc-le-suc h) (le_of_suc-le-suc g))

  -- all of them
  pub up-all : (new old : List A) (i : ℕ) → length new ≡ i → up_to new old i ≡ new ++ drop i old
  up-all new old i e = ap (λ (l : List A). l ++ drop i old) (whole new i e)
    where
      whole : (l : List A) (n : ℕ) → length l ≡ n → take n l ≡ l
      whole [] zero e = refl
      whole [] (suc n) e = refl
      whole (x ∷ l) zero e = absurd (omega arith)
      whole (x ∷ l) (suc n) e = ap (λ (t : List A). x ∷ t) (whole l n (omega arith))

module _ {A : Type 0} (new row : List A) (n m : ℕ) (e : n ≡ m) where
  pub kept_row : (n ≡ 0 → ⊥) → shown n row ≡ filled_if m new row
  unfolding filled_if
  kept_row h = rw (← e, ne_eqb n 0 h)

  pub new_row : n ≡ 0 → shown 0 new ≡ filled_if m new row
  unfolding filled_if
  new_row h = rw (← e, h)

pub has_eight : (c : Channel) (n : ℕ) → ◌≡◌ {A = ℕ} 0 (row_number c n) → slot_count ≤ n
unfolding row_number
has_eight c n e = go (plain_shape c) (ltb n slot_count) refl e
  where
    go : (fits short : Bool) → ltb n slot_count ≡ short → ◌≡◌ {A = ℕ} 0 (cond fits (cond short 9 0) 3) → slot_count ≤ n
    go false short h e = absurd (omega (arith, e))
    go true true h e = absurd (omega (arith, e))
    go true false h e = ltb-false n slot_count h

-- an answer and its number
pub refusal-some : (r : Refusal) → refusal_of r ≡ 0 → ⊥
refusal-some NotInShape e = cc
refusal-some ShortRow e = cc

pub ok-zero : (r : Result Unit Refusal) → ((e : Refusal) → r ≡ Err e → ⊥) → refused_by r ≡ 0
ok-zero (Ok u) h = refl
ok-zero (Err e) h = absurd (h e refl)
