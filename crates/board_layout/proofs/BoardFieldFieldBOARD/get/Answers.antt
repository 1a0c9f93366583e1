-- The coils are all the bytes.
use mathlib.Core.Path.{ap, ◌∙◌}
use mathlib.Core.List.{List}
use Rattle.std.proofs.Common.{arith}
use Rattle.board.specs.declared.Coil.{Coil}
use Rattle.board.specs.declared.Board.{Board}
use Rattle.fields.proofs.Rows.{row-all}
use Rattle.board_layout.proofs.Places.{coil_local}
use Rattle.board_layout.proofs.BoardFieldFieldBOARD.get.Goals as goal

pub returns : goal.returns
returns c =
    ap {B = Board} (λ (l : List Coil). record { coils = l })
    (c.get_all.ensures ∙ row-all coil_local (omega arith) 16 c.args.b.now (omega arith) c.coil_at-first.result)
