-- `sender::frames::Frames::put_frame` meets its contract: the eight bytes of the header, then the payload.
-- Assumes nothing.
use Rattle.std.proofs.Common.{refl, ◌∙◌}
use Rattle.sender.proofs.FrameLaws.{in_two}
use Rattle.sender.proofs.frames.Frames.put_frame.Goals as goal

pub returns : goal.returns
returns c =
    let a = c.args in
    let both = in_two a.self a.first a.last a.payload.now in
    (refl, c.put.ensures ∙ rw c.put_header.ensures (both _ a.out.now a.at c.header.ensures))
