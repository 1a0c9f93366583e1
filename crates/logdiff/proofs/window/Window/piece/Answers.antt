-- `logdiff::window::Window::piece`: what is at hand is the part of the room. Assumes nothing.
use Rattle.std.proofs.Common.{refl}
use Rattle.keys.specs.Keys.{part}
use Rattle.logdiff.specs.Turns.{at_hand}
use Rattle.logdiff.proofs.window.Window.piece.Goals as goal

pub returns : goal.returns
unfolding at_hand part
returns c = (refl, refl)
