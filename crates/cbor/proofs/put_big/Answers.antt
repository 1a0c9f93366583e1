-- `cbor::put_big` meets its contract: the last w of the number's eight bytes are put.
-- Assumes nothing.
use Rattle.std.proofs.Common.{◌-◌, ap, arith}
use Rattle.buffer.specs.Bytes.{write}
use Rattle.cbor.proofs.Put.{last-slice}
use Rattle.cbor.proofs.put_big.Goals as goal

pub returns : goal.returns
returns c =
    rw (c.put.ensures, c.to_be_bytes-bytes.ensures)
    (ap (write c.args.out.now c.args.at) (last-slice (8 - c.args.w) c.args.w 8 c.args.n (omega arith)))
