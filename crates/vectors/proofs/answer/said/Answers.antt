-- `vectors::answer::said`: what is said of a line that is wrong fits the room. Assumes nothing.
use Rattle.std.proofs.Common.{arith}
use Rattle.text.proofs.Texts.{fitting}
use Rattle.vectors.specs.Said.{not_hex, too_long}
use Rattle.vectors.proofs.Lengths.{fault_length}
use Rattle.vectors.proofs.answer.said.Goals as goal

pub returns-in-NotHex : goal.returns-in-NotHex
returns-in-NotHex c = rw (c.in-NotHex.is, c.fault.ensures) (fitting 4160 _ (omega (arith, fault_length c.args.reading.now.number not_hex)))

pub returns-in-TooLong : goal.returns-in-TooLong
returns-in-TooLong c = rw (c.in-TooLong.is, c.fault-in-TooLong.ensures) (fitting 4160 _ (omega (arith, fault_length c.args.reading.now.number too_long)))
