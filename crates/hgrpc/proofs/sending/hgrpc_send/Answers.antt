-- `hgrpc::sending::hgrpc_send` meets its contract: it is the sender's, and without data it does not matter which bytes are lent for it.
-- Assumes nothing.
use Rattle.hgrpc.proofs.SendCalls.{sent, refused}
use Rattle.hgrpc.proofs.sending.hgrpc_send.Goals as goal

pub returns-in-Ok : goal.returns-in-Ok
returns-in-Ok c = sent _ _ _ _ _ _ c.then_some-data.ensures _ _ c.send.ensures _ c.in-Ok.is

pub returns-in-Err : goal.returns-in-Err
returns-in-Err c = rw c.from.ensures (refused _ _ _ _ _ _ c.then_some-data.ensures _ _ c.send.ensures _ c.in-Err.is)
