-- `buffer::put`'s loop: the bytes so far stand in their places.
use Rattle.std.proofs.Common.{◌≡◌, take}
use Rattle.buffer.specs.Bytes.{write}
use Rattle.buffer.proofs.put.Given as goal

abbrev pub invariant-loop-i : goal.invariant-loop-i
invariant-loop-i l = l.buffer ≡ write l.initial.buffer l.at (take l.i l.bytes)
