-- `double_keys::list_all` meets its contract. The loop's invariant: the first i places have their indexes.
-- Assumes nothing.
use mathlib.Core.Path.{◌≡◌, refl, ◌∙◌}
use mathlib.Core.Bool.{Bool, true, false}
use mathlib.Core.List.{List}
use Prim.Native.Nat.{ℕ, ◌+◌, ◌<◌}
use Rattle.std.proofs.Common.{arith}
use lib.ListN.{length, get_or, set, length-set}
use lib.Dec.{ltb}
use lib.Seq.{get_or-set_same, get_or-set_other}
use borrow.Author.Tests.{ltb-true, ltb-false}
use Rattle.double_keys.specs.Search.{Counts}

counts-more : (row₀ row : List ℕ) (i : ℕ) → Counts i row₀ row → i < length row → Counts (i + 1) row₀ (set row i i)
counts-more row₀ row i c w = record { long = length-set row i i ∙ c.long; each = λ t h. by t h (ltb t i) refl }
  where
    by : (t : ℕ) → t < i + 1 → (b : Bool) → ltb t i ≡ b → get_or (set row i i) t 0 ≡ t
    by t h true e = let l = ltb-true t i e in get_or-set_other row i t i 0 (λ f. omega arith) ∙ c.each t l
    by t h false e = let l = ltb-false t i e in let q : t ≡ i = omega arith in rw (q, get_or-set_same row i i 0 w)
