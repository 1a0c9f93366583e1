-- `hgrpc::screen::hgrpc_active` meets its contract, by the state read and by the count.
-- Assumes nothing.
use Rattle.std.proofs.Common.{sym, ap, ◌∙◌}
use Rattle.status.specs.Row.{counted}
use Rattle.hgrpc.proofs.CallLaws.{opened, closed, active-none, active-done}
use Rattle.hgrpc.proofs.screen.hgrpc_active.Goals as goal

pub returns-in_default : goal.returns-in_default
returns-in_default c = active-none _ (closed _ _ c.in_default.is c.read.ensures.value)

pub returns-in-Ok : goal.returns-in-Ok
returns-in-Ok c = active-done _ _ (opened _ _ _ c.in-Some.is c.read.ensures.value) _ (ap counted (sym c.in-Ok.is) ∙ c.active.ensures)

pub returns-in-Err : goal.returns-in-Err
returns-in-Err c = rw c.from.ensures (active-done _ _ (opened _ _ _ c.in-Some.is c.read.ensures.value) _ (ap counted (sym c.in-Err.is) ∙ c.active.ensures))
