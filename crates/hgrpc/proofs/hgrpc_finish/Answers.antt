-- `hgrpc::hgrpc_finish` meets its contract, by the state read, the finish, and the state put back.
-- Assumes nothing.
use Rattle.std.proofs.Common.{ap, refl}
use Rattle.channel.specs.Channel.{finished}
use Rattle.hgrpc.proofs.CallLaws.{opened, closed, finish-none, finish-done, finish-kept}
use Rattle.hgrpc.proofs.hgrpc_finish.Goals as goal

pub returns-in_default : goal.returns-in_default
returns-in_default c = finish-none _ _ (closed _ _ c.in_default.is c.read.ensures.value)

pub returns-in-Ok : goal.returns-in-Ok
returns-in-Ok c =
    finish-done _ _ _ (opened _ _ _ c.in-Some.is c.read.ensures.value) c.finish.result _ _ c.finish.ensures.answer (ap (finished c.in-Some.channel) c.in-Ok.is) c.put_state.ensures

pub returns-in-Err : goal.returns-in-Err
returns-in-Err c =
    rw c.from.ensures
    (finish-kept _ _ _ (opened _ _ _ c.in-Some.is c.read.ensures.value) (rw c.in-Some.is at c.read.ensures.bytes) c.finish.result _ c.finish.ensures.answer (ap (finished c.in-Some.channel) c.in-Err.is) refl)
