-- `loose::scan` meets its contract: at every turn what is left to say is the scan from the position reached.
-- Assumes nothing.
use Rattle.std.proofs.Common.{◌≡◌, true, ℕ, ◌-◌, ◌<◌, refl, sym, ◌∙◌, arith}
use Rattle.loose.specs.Scan.{scanned}
use Rattle.loose.proofs.ScanLaws.{by_first, goes_on, ends, nearer, turn}
use Rattle.loose.proofs.scan.Goals as goal

fewer : (n p q : ℕ) → p < n → p < q → n - q < n - p
fewer n p q h k = omega arith

pub loop-p-init : goal.loop-p-init
unfolding scanned
loop-p-init c = refl

-- ---- the first byte holds the number

pub loop-p-smaller-then-b-lt24 : goal.loop-p-smaller-then-b-lt24
loop-p-smaller-then-b-lt24 c =
    fewer _ _ _ c.loop-p-test.true (by_first c.args.s.now _ _ _ refl c.loop-p-test.true c.if-b-lt24.true c.behind_of-p.ensures).0

pub loop-p-preserved-then-b-lt24 : goal.loop-p-preserved-then-b-lt24
loop-p-preserved-then-b-lt24 c =
    c.loop-p.invariant ∙ (by_first _ _ _ _ refl c.loop-p-test.true c.if-b-lt24.true c.behind_of-p.ensures).1

-- ---- the bytes behind it tell

pub loop-p-smaller-in-Some : goal.loop-p-smaller-in-Some
loop-p-smaller-in-Some c =
    let skips = c.in-Some.ensures in
    nearer _ _ c.loop-p-test.true _ refl _ skips.on

pub loop-p-preserved-in-Some : goal.loop-p-preserved-in-Some
loop-p-preserved-in-Some c = c.loop-p.invariant ∙ goes_on _ _ _ c.loop-p-test.true c.in-Some.ensures

-- ---- the number is read

pub returns-then-not-is_shortest : goal.returns-then-not-is_shortest
returns-then-not-is_shortest c =
    sym (c.loop-p.invariant ∙ turn _ _ c.loop-p-test.true _ c.read_head-h.ensures _ c.is_shortest.ensures ∙ rw c.if-not-is_shortest.true)

pub loop-p-smaller : goal.loop-p-smaller
loop-p-smaller c = nearer _ _ c.loop-p-test.true _ c.read_head-h.ensures _ c.behind-p.ensures

pub loop-p-preserved : goal.loop-p-preserved
loop-p-preserved c =
    let shortest : c.is_shortest.result ≡ true = cc in
    c.loop-p.invariant ∙ turn _ _ c.loop-p-test.true _ c.read_head-h.ensures _ c.is_shortest.ensures ∙ rw (shortest, c.behind-p.ensures)

pub returns : goal.returns
returns c = sym (c.loop-p.invariant ∙ ends _ _ (omega arith))
