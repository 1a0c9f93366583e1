-- `board::Board::apply` meets its contract, by what its calls ensure.
-- Assumes nothing.
use Rattle.std.proofs.lemmas.Result.{err_from_is_err_and}
use Rattle.board.specs.Board.{applied}
use Rattle.board.proofs.Board.apply.Goals as goal

pub returns-in_err-change : goal.returns-in_err-change
unfolding applied
returns-in_err-change c =
    let p = err_from_is_err_and c.from_residual.result c.from_residual.ensures.1 in
    rw (p.1, p.2, ← c.in_err-change.ensures)

pub returns : goal.returns
unfolding applied
returns c = rw (c.changed.ensures, ← c.in_ok-change.ensures)
