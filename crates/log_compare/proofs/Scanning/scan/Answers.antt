-- `log_compare::Scanning::scan` meets its contract: each turn takes bytes up to the end of the head or the body under way.
-- Assumes nothing.
use Rattle.std.proofs.Common.{◌≡◌, ℕ, ◌<◌, ◌≤◌, Bool, false, true, eqb, List, [], ◌∷◌, length, take, drop, sym, refl, ap, ◌∙◌, arith, length-take-le, take-append-drop, eqb-true}
use borrow.Author.Tests.{eqb-false}
use Rattle.log_compare.specs.Scan.{scan_of, scan_view, settled, reach_of}
use Rattle.log_compare.specs.Partial.{under_way}
use Rattle.log_compare.specs.declared.Scanning.{Scanning}
use Rattle.log_compare.proofs.Held.{some_reach}
use Rattle.log_compare.proofs.Scans.{any-cut, at_once}
use Rattle.log_compare.proofs.Scanning.scan.Goals as goal

-- so many bytes are at hand of the rest, and no more than end what is under way
turn : (s : Scanning) (rest bytes behind : List ℕ) (n : ℕ) → 0 < n → n ≤ length rest → n ≤ reach_of (under_way s.under)
    → bytes ≡ take n rest → behind ≡ drop n rest → scan_of (scan_view s) rest ≡ scan_of (settled (scan_view s) bytes) behind
unfolding scan_view
turn s rest bytes behind n some within reach e f =
    let k : length bytes ≡ n = rw e (length-take-le n rest within) in
    ap (scan_of (scan_view s)) (sym (take-append-drop n rest))
    ∙ any-cut (scan_view s) (take n rest) (drop n rest)
    ∙ rw (← e, ← f) (ap (λ t. scan_of t behind) (sym (at_once (scan_view s) bytes (omega arith) (omega arith))))

some_left : (s : List ℕ) (r : Bool) → r ≡ eqb (length s) 0 → r ≡ false → 0 < length s
some_left s r e f = let z = eqb-false (length s) 0 (sym e ∙ f) in omega arith

none-left : (s : List ℕ) (r : Bool) → r ≡ eqb (length s) 0 → r ≡ true → s ≡ []
none-left [] r e f = refl
none-left (b ∷ s) r e f = let z = eqb-true (length (b ∷ s)) 0 (sym e ∙ f) in absurd (omega arith)

pub loop-rest-smaller : goal.loop-rest-smaller
loop-rest-smaller c =
    let reach = some_reach c.loop-rest.s.under in
    omega (arith, c.split_at.ensures.back_len, reach, some_left c.loop-rest.rest.now c.is_empty.result c.is_empty.ensures c.loop-rest-test.true)

pub loop-rest-preserved : goal.loop-rest-preserved
loop-rest-preserved c =
    let l = c.loop-rest in
    let reach = some_reach l.s.under in
    let some = some_left l.rest.now c.is_empty.result c.is_empty.ensures c.loop-rest-test.true in
    l.invariant
    ∙ turn l.s l.rest.now c.split_at.result.0.now c.split_at.result.1.now c.min-n.result (omega arith) (omega arith) (omega arith) c.split_at.ensures.front c.split_at.ensures.back
    ∙ rw (← c.settled-s.ensures)

pub returns : goal.returns
unfolding scan_of
returns c =
    let l = c.loop-rest in
    sym (rw (none-left l.rest.now c.is_empty.result c.is_empty.ensures c.loop-rest-test.false) at l.invariant)
