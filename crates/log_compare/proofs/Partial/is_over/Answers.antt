-- `log_compare::Partial::is_over` meets its contract, by how many bytes of a head are held.
-- Assumes nothing.
use Rattle.std.proofs.Common.{◌≡◌, ◌%◌, ◌&&◌, eqb, length, ◌∙◌, arith}
use Rattle.log_compare.proofs.Held.{over-held}
use Rattle.log_compare.proofs.Partial.is_over.Goals.{then-piece, else-piece}
use Rattle.log_compare.proofs.Partial.is_over.Goals as goal

-- whether it is the last piece, and nothing of a head is held
pub returns-then-self-eq0 : goal.returns-then-self-eq0
returns-then-self-eq0 c =
    let six : length c.args.self.head ≡ 6 = omega arith in
    let v : c.if-piece.value ≡ (c.args.piece.is_last && eqb (c.args.self.held % 6) 0) =
    elim c.if-piece.branch [ then-piece w ↦ rw w.if-piece.true w.value-is | else-piece w ↦ rw w.if-piece.false (w.value-is ∙ w.if-piece.false) ] in
    rw (over-held c.args.self six c.args.piece.is_last c.args.piece.bytes.now, ← v, c.if-self-eq0.true) c.is_empty.ensures

pub returns-else-self-eq0 : goal.returns-else-self-eq0
returns-else-self-eq0 c =
    let six : length c.args.self.head ≡ 6 = omega arith in
    let v : c.if-piece.value ≡ (c.args.piece.is_last && eqb (c.args.self.held % 6) 0) =
    elim c.if-piece.branch [ then-piece w ↦ rw w.if-piece.true w.value-is | else-piece w ↦ rw w.if-piece.false (w.value-is ∙ w.if-piece.false) ] in
    rw (over-held c.args.self six c.args.piece.is_last c.args.piece.bytes.now, ← v, c.if-self-eq0.false)
