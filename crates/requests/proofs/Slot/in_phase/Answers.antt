-- `requests::Slot::in_phase` meets its contract: phases are told by their numbers.
use Rattle.requests.proofs.PhaseLaws.{same_is}
use Rattle.requests.proofs.Slot.in_phase.Goals as goal

pub returns : goal.returns
returns c = cc (same_is c.args.p c.args.self.phase)
