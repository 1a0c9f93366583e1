-- `entries::find_key` meets its contract: the search stops where there is no entry, at the key, or goes on with the next.
-- Assumes nothing.
use Rattle.std.proofs.Common.{◌≡◌, ◌+◌, ◌-◌, false, sym, ◌∙◌, arith}
use Rattle.entries.specs.Entries.{find}
use Rattle.entries.proofs.Walk.{ends, breaks, goes}
use Rattle.entries.proofs.find_key.Goals as goal

pub returns-in_err-e : goal.returns-in_err-e
unfolding find
returns-in_err-e c = c.from_residual.ensures ∙ sym (c.loop.invariant ∙ rw (breaks _ _ (c.args.n - c.loop.counter) _ (omega arith) c.in_err-e.ensures))

pub returns-then-has_key : goal.returns-then-has_key
unfolding find
returns-then-has_key c =
    sym (c.loop.invariant ∙ rw (goes _ _ (c.args.n - c.loop.counter) _ _ (omega arith) c.in_ok-e.ensures, ← c.has_key.ensures, c.if-has_key.true))

pub loop-preserved : goal.loop-preserved
unfolding find
loop-preserved c =
    let no : c.has_key.result ≡ false = cc in
    let n : c.args.n - c.loop.counter - 1 ≡ c.args.n - (c.loop.counter + 1) = omega arith in
    c.loop.invariant ∙ rw (goes _ _ (c.args.n - c.loop.counter) _ _ (omega arith) c.in_ok-e.ensures, ← c.has_key.ensures, no, n, c.next-p.ensures)

pub returns : goal.returns
unfolding find
returns c = sym (c.loop.invariant ∙ rw (ends _ _ (c.args.n - c.loop.counter) _ (omega arith)))
