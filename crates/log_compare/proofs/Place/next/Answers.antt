-- `log_compare::Place::next` meets its contract, by the records at a place.
-- Assumes nothing.
use Rattle.std.proofs.Common.{drop, sym, ap, ◌∙◌, arith, length-drop, rules}
use Rattle.log_compare.specs.Places.{moved_to, next_of}
use Rattle.log_compare.specs.declared.Place.{Place}
use Rattle.log_compare.proofs.Lents.{tail-is, within, least, says_both, goes_on, first-there, second-there, none-there}
use Rattle.log_compare.proofs.Place.next.Goals as goal

pub slice_bounds-same_key-count : goal.slice_bounds-same_key-count
slice_bounds-same_key-count c = omega (arith, least _ _ c.in-Some-Some.ensures)

pub slice_bounds-same_key-start : goal.slice_bounds-same_key-start
slice_bounds-same_key-start c = let l = least _ _ c.in-Some-Some.ensures in search rules

pub slice_bounds-same_key-count-in-Some-Some : goal.slice_bounds-same_key-count-in-Some-Some
slice_bounds-same_key-count-in-Some-Some c = omega (arith, least _ _ c.in-Some-Some.ensures')

pub slice_bounds-same_key-start-in-Some-Some : goal.slice_bounds-same_key-start-in-Some-Some
slice_bounds-same_key-start-in-Some-Some c = let l = least _ _ c.in-Some-Some.ensures' in search rules

pub overflow_sub-entry : goal.overflow_sub-entry
overflow_sub-entry c = least _ _ c.in-Some-Some.ensures

pub overflow_sub-entry-then-not-same_key : goal.overflow_sub-entry-then-not-same_key
overflow_sub-entry-then-not-same_key c = least _ _ c.in-Some-Some.ensures'

pub returns-then-not-same_key : goal.returns-then-not-same_key
returns-then-not-same_key c =
    let l = c.loop-a in
    let different = rw (tail-is c.in-Some-Some.a.now, tail-is c.in-Some-Some.b.now) at (sym c.same_key.ensures ∙ c.if-not-same_key.true) in
    c.behind.ensures
    ∙ rw c.moved_to-next.ensures
    (sym (l.invariant ∙ says_both l.at c.args.first.now c.args.second.now c.in-Some-Some.a.now c.in-Some-Some.b.now c.in-Some-Some.ensures c.in-Some-Some.ensures' different))

pub loop-a-smaller : goal.loop-a-smaller
unfolding moved_to
loop-a-smaller c =
    let s = c.args.first.now in
    let at = c.loop-a.at.first in
    let r = c.in-Some-Some.a.now in
    rw c.moved_to-next.ensures
    (omega (arith, length-drop at s, least (drop at s) r c.in-Some-Some.ensures, within (drop at s) r c.in-Some-Some.ensures))

pub loop-a-preserved : goal.loop-a-preserved
loop-a-preserved c =
    let l = c.loop-a in
    let same = rw (tail-is c.in-Some-Some.a.now, tail-is c.in-Some-Some.b.now) at (sym c.same_key.ensures ∙ c.if-not-same_key.false) in
    l.invariant
    ∙ goes_on l.at c.args.first.now c.args.second.now c.in-Some-Some.a.now c.in-Some-Some.b.now c.in-Some-Some.ensures c.in-Some-Some.ensures' same
    ∙ ap (λ (p : Place). next_of p c.args.first.now c.args.second.now) (sym c.moved_to-next.ensures)

pub overflow_sub-entry-in-Some-None : goal.overflow_sub-entry-in-Some-None
overflow_sub-entry-in-Some-None c = least _ _ c.in-Some-None.ensures

pub returns-in-Some-None : goal.returns-in-Some-None
returns-in-Some-None c =
    let l = c.loop-a in
    c.behind-in-Some-None.ensures
    ∙ rw c.moved_to.ensures
    (sym (l.invariant ∙ first-there l.at c.args.first.now c.args.second.now c.in-Some-None.a.now c.in-Some-None.ensures c.in-Some-None.ensures'))

pub overflow_sub-entry-in-None-Some : goal.overflow_sub-entry-in-None-Some
overflow_sub-entry-in-None-Some c = least _ _ c.in-None-Some.ensures'

pub returns-in-None-Some : goal.returns-in-None-Some
returns-in-None-Some c =
    let l = c.loop-a in
    c.behind-in-None-Some.ensures
    ∙ rw c.moved_to-in-None-Some.ensures
    (sym (l.invariant ∙ second-there l.at c.args.first.now c.args.second.now c.in-None-Some.b.now c.in-None-Some.ensures c.in-None-Some.ensures'))

pub returns-in-None-None : goal.returns-in-None-None
returns-in-None-None c =
    let l = c.loop-a in
    sym (l.invariant ∙ none-there l.at c.args.first.now c.args.second.now c.in-None-None.ensures c.in-None-None.ensures')
