-- What stands at a place of a layout: a field behind another, a number of two bytes or three, a byte.
-- Assumes nothing.
use Prim.Native.Nat.{ℕ, ◌+◌, ◌*◌, ◌/◌, ◌%◌}
use mathlib.Core.Bool.{Bool, true, false, ◌&&◌}
use mathlib.Core.List.{List, [], ◌∷◌, ◌++◌}
use mathlib.Core.Path.{◌≡◌, refl, sym, ap, ◌∙◌}
use native.Mathlib.Nat.{add-zero}
use native.Mathlib.Omega.{arith}
use lib.ListN.{length, drop, get_or, set, length-set}
use lib.Seq.{get_or-drop, drop-drop, take_all}
use Rattle.buffer.specs.Bytes.{write}
use Rattle.buffer.proofs.WriteLaws.{write-twice, set-write, length-write, take-front}
use Rattle.fields.specs.Fields.{Field, number, both}

pub and-true : (x : Bool) → (x && true) ≡ x
and-true true = refl
and-true false = refl

-- ---- a field behind another: reading and judging from place p on, the second field from place q on; putting

module _ {A B : Type 0} (f : Field A) (g : Field B) (b : List ℕ) (p q : ℕ) (e : f.width + p ≡ q) where
  behind : drop f.width (drop p b) ≡ drop q b
  behind =
      let k : p + f.width ≡ q = omega arith in
      drop-drop f.width p b ∙ ap (λ (n : ℕ). drop n b) k

  pub both-get : ◌≡◌ {A = A × B} ((both f g).get (drop p b)) (f.get (drop p b), g.get (drop q b))
  both-get = ap {B = A × B} (λ (l : List ℕ). (f.get (drop p b), g.get l)) behind

  pub both-good : (both f g).good (drop p b) ≡ (f.good (drop p b) && g.good (drop q b))
  both-good = ap (λ (l : List ℕ). f.good (drop p b) && g.good l) behind

pub put-behind : (w : List ℕ) (p q : ℕ) (s t : List ℕ) → length s + p ≡ q → write (write w p s) q t ≡ write w p (s ++ t)
put-behind w p q s t e =
    let k : q ≡ p + length s = omega arith in
    ap (λ (n : ℕ). write (write w p s) n t) k ∙ write-twice w p s t

-- ---- a number of two bytes, and of three

pub two-get : (b : List ℕ) (at : ℕ) → (number 2).get (drop at b) ≡ get_or b at 0 + 256 * get_or b (at + 1) 0
two-get b at =
    let x : get_or (drop at b) 0 0 ≡ get_or b at 0 = get_or-drop at b 0 0 ∙ ap (λ (k : ℕ). get_or b k 0) (add-zero at) in
    let y : get_or (drop at b) 1 0 ≡ get_or b (at + 1) 0 = get_or-drop at b 1 0 in
    omega (arith, x, y)

pub two-put : (b : List ℕ) (at n : ℕ) → set (set b at (n % 256)) (at + 1) (n / 256 % 256) ≡ write b at ((number 2).put n)
two-put b at n =
    let c : List ℕ = n % 256 ∷ [] in
    ap (λ (w : List ℕ). set w (at + 1) (n / 256 % 256)) (set-write b at (n % 256))
    ∙ set-write (write b at c) (at + 1) (n / 256 % 256)
    ∙ put-behind b at (at + 1) c (n / 256 % 256 ∷ []) (omega arith)

pub three : (n : ℕ) → n % 256 ∷ n / 256 % 256 ∷ n / 65536 % 256 ∷ [] ≡ (number 3).put n
three n =
    let e : n / 65536 ≡ n / 256 / 256 = omega arith in
    ap (λ (m : ℕ). n % 256 ∷ n / 256 % 256 ∷ m % 256 ∷ []) e

-- ---- one byte

pub byte-get : (b : List ℕ) (at : ℕ) → get_or (drop at b) 0 0 ≡ get_or b at 0
byte-get b at = get_or-drop at b 0 0 ∙ ap (λ (k : ℕ). get_or b k 0) (add-zero at)

-- ---- what is put keeps the length, and may be all

pub wrote-length : (w v : List ℕ) (i : ℕ) (s : List ℕ) → v ≡ write w i s → length v ≡ length w
wrote-length w v i s e = ap length e ∙ length-write w i s

pub two-set : (w : List ℕ) (i j x y : ℕ) → length (set (set w i x) j y) ≡ length w
two-set w i j x y = length-set (set w i x) j y ∙ length-set w i x

pub write-whole : (w s : List ℕ) → length w ≡ length s → write w 0 s ≡ s
write-whole w s h = sym (take_all (length s) (write w 0 s) (omega (arith, length-write w 0 s))) ∙ take-front w s (omega arith)
