-- `cbor::read_head` meets its contract: a head that is not reserved names at most eight bytes.
use Rattle.std.proofs.Common.{arith}
use Rattle.cbor.proofs.Width.{width-most}
use Rattle.cbor.proofs.read_head.Goals as goal

pub big_endian-value-requires : goal.big_endian-value-requires
big_endian-value-requires c = (rw c.width_of-w.ensures (width-most _ (omega arith)), omega (arith, c.in_ok-b.ensures.lookup.3.0))
