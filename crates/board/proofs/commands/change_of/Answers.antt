-- `board::commands::change_of` meets its contract, by the answer of the check.
-- Assumes nothing.
use Rattle.std.proofs.lemmas.Result.{err_from_is_err_and}
use Rattle.command.specs.Lookup.{name_of, count_of}
use Rattle.board.specs.Commands.{change_of}
use Rattle.board.proofs.commands.change_of.Goals as goal

pub returns-in_err-c : goal.returns-in_err-c
unfolding change_of
returns-in_err-c c =
    let p = err_from_is_err_and c.from_residual.result c.from_residual.ensures.1 in
    rw (p.1, p.2, ← c.in_err-c.ensures)

pub returns : goal.returns
unfolding change_of name_of count_of
returns c =
    rw (← c.in_ok-c.ensures, ← c.in_ok-c.ensures, ← c.part.ensures) c.by_name.ensures
