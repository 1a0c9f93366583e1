-- `hgrpc::boards::hgrpc_board_first` meets its contract, by the length of what is lent.
-- Assumes nothing.
use Rattle.hgrpc.proofs.BoardCalls.{first-other, first_done}
use Rattle.hgrpc.proofs.boards.hgrpc_board_first.Goals as goal

pub returns-then-bytes-ne-BOARD : goal.returns-then-bytes-ne-BOARD
returns-then-bytes-ne-BOARD c = first-other _ c.if-bytes-ne-BOARD.true

pub returns : goal.returns
returns c = first_done _ c.if-bytes-ne-BOARD.false _ _ c.first.ensures c.put_board.ensures
