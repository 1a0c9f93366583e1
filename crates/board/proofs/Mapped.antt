-- An array's `map` by a closure that answers what f does makes the list mapped by f.
-- Assumes nothing.
use Prim.Native.Nat.{ℕ, ◌<◌}
use mathlib.Core.Path.{◌≡◌, sym, ◌∙◌}
use mathlib.Core.List.{List, map}
use native.Mathlib.Omega.{arith}
use lib.ListN.{length, length-map, get_or-map}
use Rattle.std.specs.Fn.{Called, Mut}
use Rattle.std.specs.Array.{IsMapOf}
use Rattle.std.proofs.lemmas.List.{ext_get_or}

pub map-is : {F A B : Type 0} (g : Mut F (A × Unit {0}) B) (f : F) (h : A → B) (xs : List A) (ys : List B) (n : ℕ) (d : A) → IsMapOf g f xs ys n → length xs ≡ n
    → ((p q : F) (x : A) (y : B) → Called g p (x, tt) y q → y ≡ h x) → ys ≡ map h xs
map-is g f h xs ys n d m e each =
    ext_get_or (h d) ys (map h xs) (m.long ∙ sym e ∙ sym (length-map xs h)) (λ i k.
    let below : i < n = omega (arith, m.long) in
    let c = m.at i d (h d) below in
    each c.0 c.1 _ _ c.2 ∙ sym (get_or-map h xs i d))
