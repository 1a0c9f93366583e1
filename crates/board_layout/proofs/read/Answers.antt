-- Bytes that are judged a board's give it, and are its bytes; others give none.
use Rattle.std.proofs.Common.{sym, rules}
use Rattle.fields.specs.Fields.{read}
use Rattle.fields.proofs.FieldLaws.{answered}
use Rattle.board_layout.specs.BoardBytes.{encode, decode}
use Rattle.board_layout.proofs.BoardLaws.{board_lawful, board-read, board-none}
use Rattle.board_layout.proofs.read.Goals as goal

pub returns-then-not-is_board : goal.returns-then-not-is_board
unfolding read
returns-then-not-is_board c = record { value = sym (board-none c.args.b.now (search rules)); bytes = search rules }

pub returns : goal.returns
unfolding encode decode
returns c = answered board_lawful c.args.b.now c.board_of.result c.type_inv.b (board-read c.args.b.now c.board_of.result (search rules) c.board_of.ensures)
