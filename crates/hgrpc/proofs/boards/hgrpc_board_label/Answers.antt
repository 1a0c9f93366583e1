-- `hgrpc::boards::hgrpc_board_label` meets its contract, by the board of the bytes, the place, and the coil and where it stands.
-- Assumes nothing.
use Rattle.hgrpc.proofs.BoardCalls.{label-none, label_outside, label-done}
use Rattle.hgrpc.proofs.boards.hgrpc_board_label.Goals as goal

pub returns-in_default : goal.returns-in_default
returns-in_default c = label-none _ _ c.read.ensures.value _ c.in_default.is

pub returns-then-coil-ge-COILS : goal.returns-then-coil-ge-COILS
returns-then-coil-ge-COILS c = label_outside _ _ c.read.ensures.value _ c.in-Some.is _ c.if-coil-ge-COILS.true

pub returns : goal.returns
returns c = label-done _ _ c.read.ensures.value _ c.in-Some.is _ c.if-coil-ge-COILS.false _ c.coil_at.ensures
