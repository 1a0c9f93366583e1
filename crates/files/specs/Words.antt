-- A word of the command line, and a row of a table. These are definitions: they assume nothing.
use Rattle.std.specs.Prelude.{ℕ, zero, suc, Bool, cond, ◌&&◌, List, [], ◌∷◌, length, get_or, eqb, ltb}

-- a dash, 45, and something behind it
unfoldable pub is_option : List ℕ → Bool
is_option s = ltb 1 (length s) && eqb (get_or s 0 0) 45

-- the bytes before the first line end, 10, and those behind it
unfoldable pub line_of : List ℕ → List ℕ
line_of [] = []
line_of (b ∷ s) = cond (eqb b 10) [] (b ∷ line_of s)

unfoldable pub behind_line : List ℕ → List ℕ
behind_line [] = []
behind_line (b ∷ s) = cond (eqb b 10) s (behind_line s)

-- the bytes behind so many line ends
unfoldable pub behind_lines : ℕ → List ℕ → List ℕ
behind_lines zero s = s
behind_lines (suc n) s = behind_lines n (behind_line s)

-- a row of a table that has a line for each, counted from 0
unfoldable pub row_of : List ℕ → ℕ → List ℕ
row_of table n = line_of (behind_lines n table)
