-- What is proved of the board's bytes beside the contracts, each claim under its name in proofs/BoardLaws.antt.
-- These are definitions: they assume nothing.
use Rattle.std.specs.Prelude.{ℕ, ◌<◌, ◌≤◌, ◌≡◌, List, length, take, drop, get_or}
use Rattle.std.proofs.Math.Option.{some}
use mir.Val.{bool_byte}
use Rattle.board.specs.declared.Coil.{Coil}
use Rattle.board.specs.declared.Board.{Board}
use Rattle.board.specs.Commands.{coil_count, longest_label}
use Rattle.board.specs.Board.{coil_at}
use Rattle.fields.specs.Laws.{AreBytes, AllFit}
use Rattle.board_layout.specs.BoardBytes.{encode, decode, on_at, length_at, label_at}

-- a board that fits its fields
pub record CoilFits (c : Coil) : Type 0 where
  pub label : length c.label ≡ longest_label
  pub length : c.length ≤ longest_label

pub record BoardFits (x : Board) : Type 0 where
  pub coil_count : length x.coils ≡ coil_count
  pub coils : AllFit CoilFits x.coils

-- every board that fits its fields comes back
abbrev pub Back : Type 0
Back = (x : Board) → BoardFits x → decode (encode x) ≡ some x

-- bytes are decoded only if they are an encoding
abbrev pub Only : Type 0
Only = (b : List ℕ) (x : Board) → AreBytes b → decode b ≡ some x → b ≡ encode x

-- each part of a coil stands at its place; of the label, its used bytes are `text`
pub record CoilPlaced (b : List ℕ) (i : ℕ) (c : Coil) : Type 0 where
  pub on : get_or b (on_at i) 0 ≡ bool_byte c.on
  pub length : get_or b (length_at i) 0 ≡ c.length
  pub label : take longest_label (drop (label_at i) b) ≡ c.label
  pub text : take c.length (drop (label_at i) b) ≡ take c.length c.label

abbrev pub Placed : Type 0
Placed = (b : List ℕ) (x : Board) (i : ℕ) → decode b ≡ some x → i < coil_count → CoilPlaced b i (coil_at x i)
