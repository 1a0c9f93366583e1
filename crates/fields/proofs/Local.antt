-- Reading and judging look at the first bytes of a field alone; each way of making a field keeps this.
-- Assumes nothing.
use Prim.Native.Nat.{ℕ, zero, suc, ◌+◌, ◌*◌, ◌≤◌}
use mathlib.Core.Bool.{Bool, ◌&&◌}
use mathlib.Core.List.{List, ◌∷◌, ◌++◌}
use mathlib.Core.Path.{◌≡◌, refl, ap, ◌∙◌}
use native.Mathlib.Nat.{suc-mul}
use native.Mathlib.Omega.{arith}
use lib.ListN.{length, drop, get_or, length-drop}
use lib.Dec.{ltb, eqb}
use lib.Seq.{take-append-le, drop-append-le}
use mir.Val.{bool_byte}
use Rattle.std.proofs.lemmas.List.{get_or_append_left}
use Rattle.fields.specs.Fields.{Field, little, number, choice, flag, bytes, both, get_all, good_all, many, standing}
use Rattle.fields.specs.Laws.{Local}

little-local : (w i : ℕ) (b r : List ℕ) → i + w ≤ length b → little w i (b ++ r) ≡ little w i b
little-local zero i b r h = refl
little-local (suc w) i b r h =
    let x : get_or (b ++ r) i 0 ≡ get_or b i 0 = get_or_append_left b r 0 i (omega arith) in
    let y : little w (suc i) (b ++ r) ≡ little w (suc i) b = little-local w (suc i) b r (omega arith) in
    omega (arith, x, y)

pub number_local : (w : ℕ) → Local (number w)
number_local w = record { get = λ b r h. little-local w 0 b r (omega arith); good = λ b r h. refl }

pub choice_local : {A : Type 0} (count : ℕ) (code : A → ℕ) (of : ℕ → A) → Local (choice count code of)
choice_local count code of = record {
  get = λ b r h. ap of (get_or_append_left b r 0 0 (omega arith));
  good = λ b r h. ap (λ (n : ℕ). ltb n count) (get_or_append_left b r 0 0 (omega arith));
}

pub bytes_local : (n : ℕ) → Local (bytes n)
bytes_local n = record { get = λ b r h. take-append-le n b r h; good = λ b r h. refl }

module _ {A B : Type 0} {f : Field A} {g : Field B} (p : Local f) (q : Local g) where
  behind : (b r : List ℕ) → f.width + g.width ≤ length b → drop f.width (b ++ r) ≡ drop f.width b ++ r
  behind b r h = drop-append-le f.width b r (omega arith)

  pub both_local : Local (both f g)
  both_local = record {
    get = λ b r h.
        ap {B = A × B} (λ (x : A). (x, g.get (drop f.width (b ++ r)))) (p.get b r (omega arith))
        ∙ ap {B = A × B} (λ (y : B). (f.get b, y)) (ap g.get (behind b r h) ∙ q.get (drop f.width b) r (omega (arith, length-drop f.width b)));
    good = λ b r h.
        ap (λ (x : Bool). x && g.good (drop f.width (b ++ r))) (p.good b r (omega arith))
        ∙ ap (λ (y : Bool). f.good b && y) (ap g.good (behind b r h) ∙ q.good (drop f.width b) r (omega (arith, length-drop f.width b)));
  }

module _ {A : Type 0} {f : Field A} (p : Local f) where
  all-get : (n : ℕ) (b r : List ℕ) → n * f.width ≤ length b → get_all f n (b ++ r) ≡ get_all f n b
  unfolding get_all
  all-get zero b r h = refl
  all-get (suc n) b r h =
      let s : suc n * f.width ≡ f.width + n * f.width = omega (arith, suc-mul n f.width) in
      ap (λ (x : A). x ∷ get_all f n (drop f.width (b ++ r))) (p.get b r (omega arith))
      ∙ ap (λ (l : List A). f.get b ∷ l)
      (ap (get_all f n) (drop-append-le f.width b r (omega arith)) ∙ all-get n (drop f.width b) r (omega (arith, length-drop f.width b)))

  all-good : (n : ℕ) (b r : List ℕ) → n * f.width ≤ length b → good_all f n (b ++ r) ≡ good_all f n b
  unfolding good_all
  all-good zero b r h = refl
  all-good (suc n) b r h =
      let s : suc n * f.width ≡ f.width + n * f.width = omega (arith, suc-mul n f.width) in
      ap (λ (x : Bool). x && good_all f n (drop f.width (b ++ r))) (p.good b r (omega arith))
      ∙ ap (λ (x : Bool). f.good b && x)
      (ap (good_all f n) (drop-append-le f.width b r (omega arith)) ∙ all-good n (drop f.width b) r (omega (arith, length-drop f.width b)))

  pub many_local : (n : ℕ) → Local (many f n)
  many_local n = record { get = all-get n; good = all-good n }

  pub standing_local : {B : Type 0} (to : B → A) (of : A → B) → Local (standing f to of)
  standing_local to of = record { get = λ b r h. ap of (p.get b r h); good = p.good }

pub flag_local : Local flag
flag_local = choice_local 2 bool_byte (λ n. eqb n 1)
