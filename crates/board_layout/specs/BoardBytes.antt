-- The board in bytes: sixteen coils of switch (1, 0 or 1), length (1, 0 to 16) and label (16, as they are), 288 in all. Label bytes past the
-- length may be any. These are definitions: they assume nothing.
use Rattle.std.specs.Prelude.{ℕ, suc, ◌+◌, ◌*◌, Bool, List}
use Rattle.std.proofs.Math.Option.{Option}
use Rattle.board.specs.declared.Coil.{Coil}
use Rattle.board.specs.declared.Board.{Board}
use Rattle.board.specs.Commands.{coil_count, longest_label}
use Rattle.board.specs.Board.{first_board}
use Rattle.fields.specs.Fields.{Field, flag, below, bytes, both, many, standing, is_value, decode as decodeBy, value_from, value_into}

-- ---- the fields

abbrev pub coil : Field Coil
coil =
    standing
    (both flag
    (both (below (suc longest_label))
    (bytes longest_label)))
    (λ c. (c.on, (c.length, c.label)))
    (λ t. record { on = t.0; length = t.1.0; label = t.1.1 })

abbrev pub board : Field Board
board =
    standing
    (many coil coil_count)
    (λ x. x.coils)
    (λ l. record { coils = l })

-- ---- where the parts of a coil stand, and the length of all

abbrev pub coil_length : ℕ
coil_length = 18

abbrev pub on_at : ℕ → ℕ
on_at i = coil_length * i

abbrev pub length_at : ℕ → ℕ
length_at i = coil_length * i + 1

abbrev pub label_at : ℕ → ℕ
label_at i = coil_length * i + 2

abbrev pub board_length : ℕ
board_length = 288

-- ---- a board to bytes, and bytes to a board

unfoldable pub encode : Board → List ℕ
encode x = board.put x

unfoldable pub is_board : List ℕ → Bool
is_board b = is_value board b

unfoldable pub board_of : List ℕ → Board
board_of b = board.get b

unfoldable pub decode : List ℕ → Option Board
decode b = decodeBy board b

-- what the code answers for bytes of any length
unfoldable pub board_from : List ℕ → Board
board_from b = value_from board first_board b

unfoldable pub board_into : List ℕ → Board → List ℕ
board_into b x = value_into board b x
