-- `hgrpc::boards::hgrpc_board_apply` meets its contract, by the board of the bytes, the command, and the board put back.
-- Assumes nothing.
use Rattle.std.proofs.Common.{Ok, ap, sym, ◌∙◌}
use Rattle.board.specs.Board.{comes_to}
use Rattle.hgrpc.proofs.BoardCalls.{apply_none, apply_done, apply_kept}
use Rattle.hgrpc.proofs.boards.hgrpc_board_apply.Goals as goal

pub returns-in_default : goal.returns-in_default
returns-in_default c = apply_none _ _ c.read.ensures.value _ c.in_default.is

pub returns-in-Ok : goal.returns-in-Ok
returns-in-Ok c = apply_done _ _ c.read.ensures.value _ c.in-Some.is _ (Ok c.in-Ok.next) _ (ap (comes_to c.in-Some.board) (sym c.in-Ok.is) ∙ c.apply.ensures) c.put_board.ensures

pub returns-in-Err : goal.returns-in-Err
returns-in-Err c =
    rw c.from.ensures
    (apply_kept _ _ c.read.ensures.value _ c.in-Some.is _ _ (ap (comes_to c.in-Some.board) (sym c.in-Err.is) ∙ c.apply.ensures) (rw c.in-Some.is at c.read.ensures.bytes))
