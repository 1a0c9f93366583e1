-- `text::spell` meets its contract: each turn puts the last digit of what is left in front, until nothing is left. Assumes nothing.
use Rattle.std.proofs.Common.{◌≡◌, ℕ, zero, suc, ◌+◌, ◌-◌, ◌/◌, ◌%◌, ◌^◌, ◌≤◌, ◌<◌, List, [], ◌∷◌, length, drop, set, refl, sym, ◌∙◌, arith}
use native.Mathlib.Nat.{pow-suc, not-suc-le-zero}
use borrow.Author.Tests.{lt-ltb, le-ltb}
use lib.ListN.{drop_of_length-le}
use Rattle.text.specs.Text.{decimal_before, decimal_of}
use Rattle.text.proofs.spell.Goals as goal

drop-set : (l : List ℕ) (i b : ℕ) → i < length l → drop i (set l i b) ≡ b ∷ drop (suc i) l
drop-set [] i b h = absurd (not-suc-le-zero h)
drop-set (x ∷ rest) zero b h = refl
drop-set (x ∷ rest) (suc i) b h = drop-set rest i b (omega arith)

-- what is left is not nothing, and so there is a place for it
place : (i n : ℕ) → n < 10 ^ suc i → (n / 10 ≡ 0 → ⊥) → 0 < i
place zero n h k = let one : 10 ^ 1 ≡ 10 = refl in absurd (k (omega arith))
place (suc i) n h k = omega arith

fewer : (i n : ℕ) → n < 10 ^ suc i → n / 10 < 10 ^ i
fewer i n h = omega (arith, pow-suc 10 i)

-- the last digit of what is left goes in front
step : (l : List ℕ) (i n b : ℕ) → 0 < i → i < length l → (n / 10 ≡ 0 → ⊥) → b ≡ 48 + n % 10
    → decimal_before i n (drop (suc i) l) ≡ decimal_before (i - 1) (n / 10) (drop i (set l i b))
unfolding decimal_before
step l zero n b z h k e = absurd (not-suc-le-zero z)
step l (suc i) n b z h k e =
    let d : suc i - 1 ≡ i = omega arith in
    rw (d, drop-set l (suc i) b h, e, le-ltb n 10 (omega arith))

-- one digit is left
last : (l : List ℕ) (i n b : ℕ) → i < length l → n / 10 ≡ 0 → b ≡ 48 + n % 10 → drop i (set l i b) ≡ decimal_before i n (drop (suc i) l)
unfolding decimal_before
last l zero n b h k e = rw (drop-set l zero b h, e)
last l (suc i) n b h k e = let m : n % 10 ≡ n = omega arith in rw (drop-set l (suc i) b h, e, lt-ltb n 10 (omega arith), m)

pub loop-i-init : goal.loop-i-init
unfolding decimal_of
loop-i-init c =
    let size : length c.args.digits.now ≤ 20 = omega arith in
    let e : drop 20 c.args.digits.now ≡ [] = drop_of_length-le c.args.digits.now size in
    (omega arith, omega arith, rw e)

pub returns-then-rest-eq0 : goal.returns-then-rest-eq0
returns-then-rest-eq0 c =
    let l = c.loop-i in
    let i : ℕ = l.i - 1 in
    let up : suc i ≡ l.i = omega arith in
    (omega arith, last l.digits i l.rest _ (omega arith) c.if-rest-eq0.true refl ∙ rw up (sym l.invariant.2))

pub loop-i-preserved : goal.loop-i-preserved
loop-i-preserved c =
    let l = c.loop-i in
    let i : ℕ = l.i - 1 in
    let up : suc i ≡ l.i = omega arith in
    let room : l.rest < 10 ^ suc i = rw up l.invariant.1 in
    let p = place i l.rest room c.if-rest-eq0.false in
    let next = step l.digits i l.rest _ p (omega arith) c.if-rest-eq0.false refl in
    (p, fewer i l.rest room, l.invariant.2 ∙ (rw up at next))
