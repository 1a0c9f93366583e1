-- `text::Line::put_hex`: the digits stand behind the text, as far as the room goes. Assumes nothing.
use Rattle.std.proofs.Common.{arith}
use Rattle.text.proofs.Texts.{kept}
use Rattle.text.proofs.Line.put_hex.Goals as goal

pub returns : goal.returns
returns g c = rw (← c.self.view_is) (kept c.put_hex-self-inside.ensures (omega arith) (omega arith))
