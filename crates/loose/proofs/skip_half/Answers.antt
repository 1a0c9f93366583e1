-- `loose::skip_half` meets its contract: one of the first half of the bytes is not 0, or nothing is told.
-- Assumes nothing.
use Rattle.std.proofs.Common.{ℕ, ◌<◌, get_or, refl, arith}
use Rattle.loose.proofs.ScanLaws.{by_half}
use Rattle.loose.proofs.skip_half.Goals as goal

pub returns : goal.returns
returns c =
    let p = c.requires in
    let small : (j : ℕ) → get_or c.args.s.now j 0 < 256 = λ j. omega (arith, c.type_inv.s j) in
    let set = c.in_ok-first_set.ensures in
    by_half _ _ _ _ _ p.1 (omega (arith, c.if-s-next.false, p.0, p.1.most)) small set.0 set.1 refl
