-- `vectors::answer::said_of_digits`: what is said fits the room. Assumes nothing.
use Rattle.std.proofs.Common.{◌≡◌, ℕ, ◌/◌, ◌%◌, false, eqb, min, List, length, take, arith, length-take}
use borrow.Author.Tests.{ne_eqb}
use Rattle.std.proofs.lemmas.List.{take_min}
use Rattle.frame.specs.Limits.{max_command}
use Rattle.text.proofs.Texts.{fitting}
use Rattle.vectors.specs.Said.{no_digits, odd}
use Rattle.vectors.proofs.Lengths.{fault_length, answer-length}
use Rattle.vectors.proofs.answer.said_of_digits.Goals as goal

-- as many bytes as there are
take-within : (n : ℕ) (s : List ℕ) (m : ℕ) → length s ≡ m → take (min n m) s ≡ take n s
take-within n s m e = rw (← e) (take_min n s)

pub returns-then-reading-eq0 : goal.returns-then-reading-eq0
returns-then-reading-eq0 c =
    let n = c.args.reading.now.number in
    rw (c.if-reading-eq0.true, c.fault.ensures) (fitting 4160 _ (omega (arith, fault_length n no_digits)))

pub returns-then-reading-eq1 : goal.returns-then-reading-eq1
returns-then-reading-eq1 c =
    let r = c.args.reading.now in
    rw (ne_eqb r.held 0 c.if-reading-eq0.false, c.if-reading-eq1.true, c.fault-then-reading-eq1.ensures) (fitting 4160 _ (omega (arith, fault_length r.number odd)))

pub returns : goal.returns
returns c =
    let r = c.args.reading.now in
    let part : take c.min.result r.item ≡ take (r.held / 2) r.item = rw c.min.ensures (take-within (r.held / 2) r.item max_command (omega arith)) in
    let even : eqb (r.held % 2) 1 ≡ false = ne_eqb (r.held % 2) 1 c.if-reading-eq1.false in
    rw (ne_eqb r.held 0 c.if-reading-eq0.false, even, c.judged.ensures, part)
    (fitting 4160 _ (omega (arith, answer-length (take (r.held / 2) r.item), length-take (r.held / 2) r.item)))
