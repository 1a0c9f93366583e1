-- `hgrpc::hgrpc_feed` meets its contract, by the room, the state read, the feed, and the state put back.
-- Assumes nothing.
use Rattle.hgrpc.proofs.CallLaws.{opened, closed, feed-short, feed-none, feed-done}
use Rattle.hgrpc.proofs.hgrpc_feed.Goals as goal

pub returns-then-work-lt-WORK_AREA : goal.returns-then-work-lt-WORK_AREA
returns-then-work-lt-WORK_AREA c = feed-short _ _ _ _ c.if-work-lt-WORK_AREA.true

pub returns-in_default : goal.returns-in_default
returns-in_default c = feed-none _ _ _ _ c.if-work-lt-WORK_AREA.false (closed _ _ c.in_default.is c.read.ensures.value)

pub returns : goal.returns
returns c =
    feed-done _ _ _ _ c.if-work-lt-WORK_AREA.false _ (opened _ _ _ c.in-Some.is c.read.ensures.value) _ _ _ _ c.feed-fed.ensures c.put_state.ensures
