-- What a turn of the loop does with the bytes held, s: what they come to in one piece. These are definitions: they assume nothing.
use Rattle.std.specs.Prelude.{◌≡◌, ℕ, ◌+◌, ◌%◌, ◌^◌, ◌≤◌, List, length, take, drop}
use Rattle.logs.specs.Laws.{at_once}
use Rattle.convert.specs.declared.input.Front.{Front}
use Rattle.convert.specs.declared.run.Run.{Run}
use Rattle.convert.specs.Sizes.{longest_old}

-- the output begins with the new form of the whole records in front, and what is left is no longer than the longest record
pub record Rewritten (s : List ℕ) (r : Front) (out : List ℕ) : Type 0 where
  pub taken : r.taken ≡ (at_once s).passed
  pub written : take r.written out ≡ (at_once s).written
  pub left : length (drop r.taken s) ≤ longest_old

-- then the rest is held, at the front of the room, and its place in the log is behind the records that are written
pub record Turned (s : List ℕ) (place : ℕ) (r : Run) (room : List ℕ) : Type 0 where
  pub held : take r.held room ≡ (at_once s).held
  pub behind : r.place ≡ (place + (at_once s).passed) % 2 ^ 64
