-- The number so far is the one of the bytes so far; it fits, since it is below 256 ^ i.
use Rattle.std.proofs.Common.{◌≡◌, ◌<◌, ◌^◌}
use Rattle.cbor.specs.Cbor.{big_endian}
use Rattle.cbor.proofs.big_endian.Given as goal

abbrev pub invariant-loop-i : goal.invariant-loop-i
invariant-loop-i l = (l.v ≡ big_endian l.s l.at l.i) × (l.v < 256 ^ l.i)
