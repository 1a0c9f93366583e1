-- `double_keys::list_shared` meets its contract. The loop's invariant: of the first i indexes those whose mark is counted twice are listed
-- at the front of the row, and the marks from index i on still stand there.
-- Assumes nothing.
use mathlib.Core.Path.{◌≡◌, refl, ◌∙◌}
use mathlib.Core.Bool.{Bool, true, false}
use mathlib.Core.Logic.{◌⊎◌, inl, inr, ⊎_elim}
use mathlib.Core.List.{List}
use Prim.Native.Nat.{ℕ, ◌+◌, ◌<◌}
use Rattle.std.proofs.Common.{arith}
use lib.ListN.{length, get_or, set, length-set}
use lib.Dec.{ltb}
use lib.Seq.{get_or-set_same, get_or-set_other}
use borrow.Author.Tests.{ltb-true, ltb-false}
use Rattle.double_keys.specs.Search.{Listed}
use Rattle.double_keys.proofs.Marks.{Spot, below, here, spot}
use Rattle.double_keys.proofs.rows.list_shared.Goals as goal
use Rattle.double_keys.proofs.rows.list_shared.Goals.{then-counts-mark-gt1, else-counts-mark-gt1}
use Rattle.double_keys.proofs.rows.list_shared.Invariants.{Listing}

module _ (counts row₀ : List ℕ) where
  listing_none : Listing counts row₀ row₀ 0 0
  listing_none = record {
    lists = record {
      few = omega arith;
      long = refl;
      indexes = record { room = omega arith; places = λ t h. absurd (omega arith); rising = λ t u l h. absurd (omega arith) };
      all = λ t h. absurd (omega arith);
    };
    rest = λ t h. refl;
  }

  module _ (row : List ℕ) (i m : ℕ) (l : Listing counts row₀ row i m) where
    -- one more index: below i as before, or i
    by_last : {A : ℕ → Type 0} → ((t : ℕ) → t < i → A t) → A i → (t : ℕ) → t < i + 1 → A t
    by_last {A} f a t h = by (ltb t i) refl
      where
        by : (b : Bool) → ltb t i ≡ b → A t
        by true e = f t (ltb-true t i e)
        by false e = let k = ltb-false t i e in let q : t ≡ i = omega arith in rw q a

    -- an index that is not listed
    passed : get_or counts (get_or row₀ i 0) 0 < 2 → Listing counts row₀ row (i + 1) m
    passed h =
        let x = l.lists in
        record {
          lists = record {
            few = omega (arith, x.few);
            long = x.long;
            indexes = record { room = x.indexes.room; places = λ t w. omega (arith, x.indexes.places t w); rising = x.indexes.rising };
            all = by_last {A = λ t. (get_or counts (get_or row₀ t 0) 0 < 2) ⊎ Listed row m t} x.all (inl h);
          };
          rest = λ t w. l.rest t (omega arith);
        }

    -- an index that is listed
    module _ (w : m < length row) where
      abbrev row' : List ℕ
      row' = set row m i

      place : (t : ℕ) → Spot row row' m i t → get_or row' t 0 < i + 1
      place t (below h e) = rw e (omega (arith, l.lists.indexes.places t h))
      place t (here q e) = rw e (omega arith)

      rise : (t u : ℕ) → t < u → Spot row row' m i t → Spot row row' m i u → get_or row' t 0 < get_or row' u 0
      rise t u k (below h e) (below g f) = rw (e, f) (l.lists.indexes.rising t u k g)
      rise t u k (below h e) (here q f) = rw (e, f) (l.lists.indexes.places t h)
      rise t u k (here q e) (below g f) = absurd (omega arith)
      rise t u k (here q e) (here p f) = absurd (omega arith)

      kept-listed : (t : ℕ) → Listed row m t → Listed row' (m + 1) t
      kept-listed t x = record { index = x.index; below = omega (arith, x.below); here = get_or-set_other row m x.index i 0 (λ e. omega (arith, x.below)) ∙ x.here }

      own : Listed row' (m + 1) i
      own = record { index = m; below = omega arith; here = get_or-set_same row m i 0 w }

      added : Listing counts row₀ row' (i + 1) (m + 1)
      added =
          let x = l.lists in
          record {
            lists = record {
              few = omega (arith, x.few);
              long = length-set row m i ∙ x.long;
              indexes = record {
                room = simp length-set (omega arith);
                places = λ t h. place t (spot row m i t w h);
                rising = λ t u k h. rise t u k (spot row m i t w (omega arith)) (spot row m i u w h);
              };
              all = by_last {A = λ t. (get_or counts (get_or row₀ t 0) 0 < 2) ⊎ Listed row' (m + 1) t} (λ t h. ⊎_elim inl (λ y. inr (kept-listed t y)) (x.all t h)) (inr own);
            };
            rest = λ t h. get_or-set_other row m t i 0 (λ e. omega (arith, x.few)) ∙ l.rest t (omega arith);
          }

-- the mark at index i still stands in the row
pub bounds-counts-mark : goal.bounds-counts-mark
bounds-counts-mark c = rw (c.loop-i.invariant.rest c.loop-i.i (omega arith)) (c.requires.2 c.loop-i.i c.loop-i-test.true)

pub loop-i-preserved : goal.loop-i-preserved
loop-i-preserved c =
    let l = c.loop-i in
    let e = l.invariant.rest l.i (omega arith) in
    let room : l.m < length l.row = omega (arith, l.invariant.lists.few, l.invariant.lists.long) in
    elim c.if-counts-mark-gt1.branch [
      | then-counts-mark-gt1 w ↦ rw (w.row-is, w.m-is) (added _ _ _ _ _ l.invariant room)
      | else-counts-mark-gt1 w ↦ rw (w.row-is, w.m-is) (passed _ _ _ _ _ l.invariant (rw (← e) (omega (arith, w.if-counts-mark-gt1.false))))
    ]
