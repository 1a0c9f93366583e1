-- The digits of what is left of the bytes, from where the loop stands, make of the buffer what all of them make of the old one.
use Rattle.std.proofs.Common.{◌≡◌, ◌+◌, ◌*◌, length, drop}
use Rattle.buffer.specs.Bytes.{write}
use Rattle.text.specs.Text.{hex_of}
use Rattle.text.proofs.put_hex.Given as goal

abbrev pub invariant-loop-b : goal.invariant-loop-b
invariant-loop-b l =
    (l.p ≡ l.at + 2 * l.b-index) × (length l.out ≡ length l.initial.out)
    × (write l.initial.out l.at (hex_of l.bytes) ≡ write l.out l.p (hex_of (drop l.b-index l.bytes)))
