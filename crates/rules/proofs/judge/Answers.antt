-- `rules::judge` meets its contract: the first rule that is broken is the answer.
use Rattle.std.proofs.Common.{◌≡◌, ℕ, ◌+◌, ◌<◌, ◌≤◌, Bool, true, false, List, length, drop, get_or, sym, ◌∙◌, add-one, drop-cons, drop_of_length-le, arith}
use Rattle.std.specs.Prelude.{Ok, Err}
use Rattle.rules.specs.declared.Rule as code
use Rattle.rules.specs.Stages.{first_of}
use Rattle.rules.proofs.judge.Goals as goal

broken-here : (xs : List (Bool × code.Rule)) (i : ℕ) (d : Bool × code.Rule) → i < length xs → (get_or xs i d).0 ≡ true → first_of (drop i xs) ≡ Err (get_or xs i d).1
unfolding first_of
broken-here xs i d h e = rw (drop-cons xs i d h, e)

held-here : (xs : List (Bool × code.Rule)) (i : ℕ) (d : Bool × code.Rule) → i < length xs → (get_or xs i d).0 ≡ false → first_of (drop i xs) ≡ first_of (drop (i + 1) xs)
unfolding first_of
held-here xs i d h e = rw (add-one, drop-cons xs i d h, e)

all-held : (xs : List (Bool × code.Rule)) (i : ℕ) → length xs ≤ i → first_of (drop i xs) ≡ Ok tt
unfolding first_of
all-held xs i h = rw (drop_of_length-le xs h)

pub returns-then-is_broken : goal.returns-then-is_broken
returns-then-is_broken c = sym (c.loop-is_broken.invariant ∙ broken-here _ c.loop-is_broken.is_broken-index _ (omega arith) c.if-is_broken.true)

pub loop-is_broken-preserved : goal.loop-is_broken-preserved
loop-is_broken-preserved c = c.loop-is_broken.invariant ∙ held-here _ c.loop-is_broken.is_broken-index _ (omega arith) c.if-is_broken.false

pub returns : goal.returns
returns c = sym (c.loop-is_broken.invariant ∙ all-held _ c.loop-is_broken.is_broken-index (omega arith))
