-- `board::Board::all_off` meets its contract, coil by coil.
-- Assumes nothing.
use Rattle.std.proofs.Common.{List, false, ap, rules}
use Rattle.board.specs.declared.Coil.{Coil}
use Rattle.board.specs.declared.Board.{Board}
use Rattle.board.specs.Board.{first_coil, switched}
use Rattle.board.proofs.Mapped.{map-is}
use Rattle.board.proofs.Board.all_off.Goals as goal

pub returns : goal.returns
returns c =
    let b : List Coil → Board = λ (l : List Coil). record { coils = l } in
    ap b (map-is _ _ (switched false) c.args.self.coils _ 16 first_coil c.map.ensures.items (search rules) (λ p q x y k. search rules))
