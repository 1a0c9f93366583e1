-- What is proved of the calls on a board beside the contracts, each claim under its name in proofs/BoardLaws.antt.
-- These are definitions: they assume nothing.
use Rattle.std.specs.Prelude.{ℕ, suc, ◌<◌, ◌≡◌, take, drop}
use mathlib.Core.List.{List, foldl}
use Rattle.std.proofs.Math.Option.{some}
use Rattle.board.specs.declared.Board.{Board}
use Rattle.board.specs.Commands.{coil_count}
use Rattle.board.specs.Board.{first_board, coil_at, applied, after}
use Rattle.fields.specs.Laws.{AreBytes}
use Rattle.board_layout.specs.BoardBytes.{encode, decode}
use Rattle.board_layout.specs.Laws.{BoardFits}
use Rattle.hgrpc.specs.Calls.{kept}
use Rattle.hgrpc.specs.Boards.{applied_answer, apply_answer, label_answer}

-- a refused command leaves every lent byte
abbrev pub ApplyRefused : Type 0
ApplyRefused = (b s : List ℕ) (n : ℕ) → AreBytes b → (apply_answer b s).number ≡ suc n → apply_answer b s ≡ kept (suc n) b

-- each call gets the board's bytes as last left
unfoldable pub bytes_after : List ℕ → List (List ℕ) → List ℕ
bytes_after b commands = foldl (λ (x s : List ℕ). (apply_answer x s).bytes) b commands

-- after every list of commands, the next call answers and leaves in bytes what the command comes to on the board itself
abbrev pub BoardSessions : Type 0
BoardSessions =
    (x : Board) → BoardFits x → (commands : List (List ℕ)) (s : List ℕ) → apply_answer (bytes_after (encode x) commands) s ≡ applied_answer (applied s (after x commands))

-- so it does from the bytes that `hgrpc_board_first` makes
abbrev pub FirstFits : Type 0
FirstFits = BoardFits first_board

-- what the place and the length of a label name is the coil's label
abbrev pub LabelThere : Type 0
LabelThere =
    (b : List ℕ) (x : Board) (i : ℕ) → decode b ≡ some x → i < coil_count
    → let a = label_answer b i in take a.size (drop a.at b) ≡ take (coil_at x i).length (coil_at x i).label
