-- `feed::quiet` meets its contract: the place of the byte that is judged, less what is pending, or what is left.
-- Assumes nothing.
use native.Mathlib.Omega.{arith}
use Rattle.frame.specs.Header.{length_of}
use Rattle.channel.proofs.QuietLaws.{count-early, count-late}
use Rattle.channel.proofs.feed.quiet.Goals as goal
use Rattle.channel.proofs.feed.quiet.Goals.{then-pending-ge8, else-pending-ge8}

pub overflow_add-most : goal.overflow_add-most
overflow_add-most c = omega (arith, c.payload_length-most.ensures, (c.requires c.if-pending-ge8.true).0)

pub overflow_sub-most : goal.overflow_sub-most
overflow_sub-most c =
    elim c.if-pending-ge8.branch [
      | then-pending-ge8 w ↦ omega (arith, w.most-is, w.payload_length-most.ensures, (c.requires w.if-pending-ge8.true).1)
      | else-pending-ge8 w ↦ omega (arith, w.most-is, w.if-pending-ge8.false)
    ]

pub returns : goal.returns
returns c =
    let p = c.args.pending in
    let size = length_of c.args.work.now in
    elim c.if-pending-ge8.branch [
      | then-pending-ge8 w ↦ omega (arith, count-late p size c.args.left w.if-pending-ge8.true, w.most-is, w.payload_length-most.ensures, c.min.ensures)
      | else-pending-ge8 w ↦ omega (arith, count-early p size c.args.left (omega (arith, w.if-pending-ge8.false)), w.most-is, c.min.ensures)
    ]
