-- The record under way in a log that comes in pieces: the bytes of its head that came, fewer than six, and what is left of a body. No more of a
-- record is held. These are definitions: they assume nothing.
use Rattle.std.specs.Prelude.{ℕ, ◌-◌, ◌%◌, Bool, cond, ◌&&◌, List, [], ◌++◌, length, take, ◌==◌, nat_le, nat_lt, slice_index, Option, Some, None}
use Rattle.logs.specs.Logs.{claimed}
use Rattle.log_compare.specs.declared.Head.{Head}
use Rattle.log_compare.specs.declared.Partial.{Partial}

pub record UnderWay : Type 0 where
  pub head : List ℕ
  pub left : ℕ

abbrev pub nothing : UnderWay
nothing = record { head = []; left = 0 }

unfoldable pub is_none : UnderWay → Bool
is_none u = u.left == 0 && length u.head == 0

-- what a head tells
unfoldable pub head_of : List ℕ → Head
head_of s = record { length = claimed 4 s; low = slice_index s 4; high = slice_index s 5 }

-- the head in front of some bytes, if it is whole
unfoldable pub head_in : List ℕ → Option Head
head_in s = cond (nat_le 6 (length s)) (Some (head_of s)) None

-- a head of six bytes is whole: its body begins
unfoldable pub begun : List ℕ → UnderWay
begun h = cond (nat_le 6 (length h)) (record { head = []; left = claimed 4 h }) (record { head = h; left = 0 })

-- with more bytes taken, of a body or else of a head
unfoldable pub takes : UnderWay → List ℕ → UnderWay
takes u bytes = cond (nat_lt 0 u.left) (record { head = u.head; left = u.left - length bytes }) (begun (u.head ++ bytes))

-- what the code's struct stands for
unfoldable pub under_way : Partial → UnderWay
under_way p = record { head = take (p.held % 6) p.head; left = p.left }
