-- The next entry is the first to come, and where there is none, none is to come.
-- Assumes nothing.
use Rattle.std.proofs.Common.{refl, arith}
use Rattle.entries.proofs.Walk.{ends, breaks}
use Rattle.double_keys.proofs.walk.EntriesIterator.next.Goals as goal

pub returns-in_err-left-clause-steps : goal.returns-in_err-left-clause-steps
returns-in_err-left-clause-steps c =
    let l = rw c.in_err-left.was at c.checked_sub.ensures in
    rw c.from_residual.ensures ((ends _ _ c.args.self.now.left _ (omega (arith, l)), omega (arith, l), refl), refl, refl)

pub returns-in_err-e-clause-steps : goal.returns-in_err-e-clause-steps
returns-in_err-e-clause-steps c =
    let l = rw c.in_ok-left.was at c.checked_sub.ensures in
    rw c.from_residual-in_err-e.ensures ((breaks _ _ c.args.self.now.left _ (omega (arith, l)) c.in_err-e.ensures, refl, refl), refl, refl)
