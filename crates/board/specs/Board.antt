-- The board, and what a command changes on it, as document 02, E3, states it. These are definitions: they assume nothing.
use Rattle.std.specs.Prelude.{ℕ, Result, Ok, Err, Bool, false, length, get_or, set, replicate}
use mathlib.Core.List.{List, map, foldl}
use Rattle.buffer.specs.Bytes.{write}
use Rattle.keys.specs.Keys.{part}
use Rattle.board.specs.declared.Coil.{Coil}
use Rattle.board.specs.declared.Board.{Board}
use Rattle.board.specs.declared.Change.{Change}
use Rattle.board.specs.declared.Change.TheVariants.{Switch, Label, AllOff}
use Rattle.board.specs.declared.Refusal.{Refusal}
use Rattle.board.specs.Commands.{coil_count, longest_label, refusal_number, change_number, change_of}

-- ---- the first board: all off with empty labels

abbrev pub first_coil : Coil
first_coil = record { on = false; length = 0; label = replicate longest_label 0 }

unfoldable pub first_board : Board
first_board = record { coils = replicate coil_count first_coil }

-- ---- a coil, and a board with another coil at a place

abbrev pub switched : Bool → Coil → Coil
switched v c = record { on = v; length = c.length; label = c.label }

-- a label's places: the text, and then 0
abbrev pub labelled : List ℕ → Coil → Coil
labelled t c = record { on = c.on; length = length t; label = write (replicate longest_label 0) 0 t }

abbrev pub coil_at : Board → ℕ → Coil
coil_at b i = get_or b.coils i first_coil

abbrev pub with_coil : Board → ℕ → Coil → Board
with_coil b i c = record { coils = set b.coils i c }

abbrev pub all_off : Board → Board
all_off b = record { coils = map (switched false) b.coils }

-- ---- what a command comes to

-- 0 or the refusal number, and the board after it
pub record Applied : Type 0 where
  pub number : ℕ
  pub board : Board

-- the same of an answer on a board: the next board, or the board as it was
abbrev pub comes_to : Board → Result Board Refusal → Applied
comes_to b (Ok next) = record { number = 0; board = next }
comes_to b (Err r) = record { number = refusal_number r; board = b }

module _ (s : List ℕ) where
  -- the named coil's switch or its label, and nothing else; `off` keeps labels
  abbrev pub changed : Change → Board → Board
  changed (Switch i v) b = with_coil b i (switched v (coil_at b i))
  changed (Label i start stop) b = with_coil b i (labelled (part s start stop) (coil_at b i))
  changed AllOff b = all_off b

  -- a refused command leaves the whole board as it was
  abbrev pub after_change : Result Change Refusal → Board → Board
  after_change (Ok x) b = changed x b
  after_change (Err r) b = b

  abbrev pub applied_by : Result Change Refusal → Board → Applied
  applied_by x b = record { number = change_number x; board = after_change x b }

  unfoldable pub applied : Board → Applied
  applied b = applied_by (change_of s) b

-- the board after a list of commands
unfoldable pub after : Board → List (List ℕ) → Board
after b commands = foldl (λ (x : Board) (s : List ℕ). (applied s x).board) b commands
