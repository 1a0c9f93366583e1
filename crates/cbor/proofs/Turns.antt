-- A loop that reads n elements by the reader r: its invariant, and what each way on from it shows. One law for each, over the reader.
-- Assumes nothing.
use Rattle.std.specs.Prelude.{Option, None, Some}
use mathlib.Core.Path.{◌≡◌, sym, ◌∙◌}
use mathlib.Core.List.{List}
use Prim.Native.Nat.{ℕ, zero, suc, ◌-◌, ◌<◌}
use native.Mathlib.Nat.{not-suc-le-zero}
use native.Mathlib.Numerals.{sub-one}
use Rattle.cbor.specs.Cbor.{Reader, repeat, and_then, key, pair}

-- n elements from at on: what is left is `left` elements from p on
abbrev pub Left : Reader → ℕ → ℕ → ℕ → ℕ → Type 0
Left r n at left p = repeat n r at ≡ repeat left r p

more : (n : ℕ) (r : Reader) (p : ℕ) → 0 < n → repeat n r p ≡ and_then (r p) (repeat (n - 1) r)
unfolding repeat
more zero r p h = absurd (not-suc-le-zero h)
more (suc n) r p h = rw sub-one

module _ (r : Reader) (n at left p : ℕ) (so_far : Left r n at left p) where
  pub stops : 0 < left → r p ≡ None → None ≡ repeat n r at
  stops h e = sym (so_far ∙ more left r p h ∙ rw e)

  pub goes : (q : ℕ) → 0 < left → r p ≡ Some q → Left r n at (left - 1) q
  goes q h e = so_far ∙ more left r p h ∙ rw e

  pub ends : left ≡ 0 → Some p ≡ repeat n r at
  unfolding repeat
  ends e = sym (so_far ∙ rw e)

-- a pair, by its key and its value
module _ (s : List ℕ) (r : Reader) (p : ℕ) where
  pub no_key : key s p ≡ None → pair s r p ≡ None
  unfolding pair
  no_key e = rw e

  pub key_then : (k : ℕ) (x : Option ℕ) → key s p ≡ Some k → r k ≡ x → pair s r p ≡ x
  unfolding pair
  key_then k x e f = rw e f
