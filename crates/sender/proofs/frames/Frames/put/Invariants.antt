-- Each turn of the loop puts a full frame: those still to put make of the output what all make of it at first.
use Rattle.std.proofs.Common.{◌-◌, ◌*◌, eqb}
use Rattle.sender.specs.Steps.{frame_for, type_bytes}
use Rattle.sender.proofs.FrameLaws.{Going}
use Rattle.sender.proofs.frames.Frames.put.Given as goal

abbrev pub invariant-loop-i : goal.invariant-loop-i
invariant-loop-i l =
    let size = l.self.how.size in
    Going (frame_for l.self) size l.bytes (type_bytes l.self l.full l.bytes) l.fn.out l.at l.out l.q (l.i * size) (l.full - l.i) (eqb l.i 0)
