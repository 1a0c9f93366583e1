-- `convert::run::Run::convert`: what is at the front of the room is what the whole records leave. Assumes nothing.
use Rattle.std.proofs.Common.{◌≡◌, ◌+◌, ◌-◌, ◌≤◌, take, drop, refl, arith, length-take}
use Rattle.convert.proofs.Fronts.{moved, unmoved, turned}
use Rattle.convert.proofs.run.Run.convert.Goals as goal
use Rattle.convert.proofs.run.Run.convert.Goals.{then-front-gt0, else-front-gt0}

pub returns : goal.returns
returns g c =
    let room = c.args.room.now in
    let held = c.args.self.held + c.args.came in
    let taken = c.convert_front-front.result.taken in
    let within = c.convert_front-front.ensures.within.0 in
    let t : taken ≤ held = omega (arith, within, length-take held room) in
    let m : take (held - taken) c.if-front-gt0.room ≡ drop taken (take held room) =
    elim c.if-front-gt0.branch [
      | then-front-gt0 w ↦ moved room held taken (omega arith) t _ (rw w.room-is w.copy_within.ensures.after)
      | else-front-gt0 w ↦ unmoved room held taken (omega arith) t _ (omega arith) w.room-is
    ] in
    turned room held taken (omega arith) t _ _ _ c.convert_front-front.ensures.front _ m _ refl refl
