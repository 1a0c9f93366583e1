-- What the calls on a board for C and Rust answer, with every lent byte after them, by the board's own definitions: its bytes are decoded, and
-- what the call leaves is encoded. These are definitions: they assume nothing.
use Rattle.std.specs.Prelude.{ℕ, Bool, false, cond, List, length, eqb, ltb}
use Rattle.board.specs.Commands.{coil_count}
use Rattle.board.specs.Board.{Applied, first_board, coil_at, applied}
use Rattle.board_layout.specs.BoardBytes.{board_length, label_at, encode, decode}
use Rattle.hgrpc.specs.Calls.{if_value, Kept, kept, Part, part, no_part}

-- 3 where the bytes lent have another length
unfoldable pub first_answer : List ℕ → Kept
first_answer b = cond (eqb (length b) board_length) (kept 0 (encode first_board)) (kept 3 b)

-- 3 where the bytes are no board, then what the command comes to
abbrev pub applied_answer : Applied → Kept
applied_answer a = kept a.number (encode a.board)

unfoldable pub apply_answer : List ℕ → List ℕ → Kept
apply_answer b s = if_value (decode b) (λ x. applied_answer (applied s x)) (kept 3 b)

-- 3 where the bytes are no board, then 42 where there is no such coil: off, if refused
pub record Switch : Type 0 where
  pub number : ℕ
  pub on : Bool

abbrev pub switch : ℕ → Bool → Switch
switch n on = record { number = n; on = on }

unfoldable pub switch_answer : List ℕ → ℕ → Switch
switch_answer b i = if_value (decode b) (λ x. cond (ltb i coil_count) (switch 0 (coil_at x i).on) (switch 42 false)) (switch 3 false)

-- the same for the label, a part of the board's bytes by its place and its length
unfoldable pub label_answer : List ℕ → ℕ → Part
label_answer b i = if_value (decode b) (λ x. cond (ltb i coil_count) (part 0 (label_at i) (coil_at x i).length) (no_part 42)) (no_part 3)
