-- The lines that the program writes, as lists of ASCII codes. These are definitions: they assume nothing.
use Rattle.std.specs.Prelude.{ℕ, ◌-◌, Option, None, Some, cond, List, [], ◌∷◌, ◌++◌}
use Rattle.cbor.specs.declared.Item.{Item}
use Rattle.cbor.specs.declared.Item.TheVariants.{Unsigned, Negative, Bytes, Simple, Array, Map, Set}
use Rattle.cbor.specs.Cbor.{is_item, item_at}
use Rattle.text.specs.Text.{hex_of, decimal_of, negative_of}

-- `line `
abbrev pub line_word : List ℕ
line_word = 108 ∷ 105 ∷ 110 ∷ 101 ∷ 32 ∷ []

-- `: `
abbrev pub colon : List ℕ
colon = 58 ∷ 32 ∷ []

-- ` within unsigned `
abbrev pub unsigned_word : List ℕ
unsigned_word = 32 ∷ 119 ∷ 105 ∷ 116 ∷ 104 ∷ 105 ∷ 110 ∷ 32 ∷ 117 ∷ 110 ∷ 115 ∷ 105 ∷ 103 ∷ 110 ∷ 101 ∷ 100 ∷ 32 ∷ []

-- ` within negative `
abbrev pub negative_word : List ℕ
negative_word = 32 ∷ 119 ∷ 105 ∷ 116 ∷ 104 ∷ 105 ∷ 110 ∷ 32 ∷ 110 ∷ 101 ∷ 103 ∷ 97 ∷ 116 ∷ 105 ∷ 118 ∷ 101 ∷ 32 ∷ []

-- ` within bytes `
abbrev pub bytes_word : List ℕ
bytes_word = 32 ∷ 119 ∷ 105 ∷ 116 ∷ 104 ∷ 105 ∷ 110 ∷ 32 ∷ 98 ∷ 121 ∷ 116 ∷ 101 ∷ 115 ∷ 32 ∷ []

-- ` within simple`
abbrev pub simple_word : List ℕ
simple_word = 32 ∷ 119 ∷ 105 ∷ 116 ∷ 104 ∷ 105 ∷ 110 ∷ 32 ∷ 115 ∷ 105 ∷ 109 ∷ 112 ∷ 108 ∷ 101 ∷ []

-- ` within array `
abbrev pub array_word : List ℕ
array_word = 32 ∷ 119 ∷ 105 ∷ 116 ∷ 104 ∷ 105 ∷ 110 ∷ 32 ∷ 97 ∷ 114 ∷ 114 ∷ 97 ∷ 121 ∷ 32 ∷ []

-- ` within map `
abbrev pub map_word : List ℕ
map_word = 32 ∷ 119 ∷ 105 ∷ 116 ∷ 104 ∷ 105 ∷ 110 ∷ 32 ∷ 109 ∷ 97 ∷ 112 ∷ 32 ∷ []

-- ` within set `
abbrev pub set_word : List ℕ
set_word = 32 ∷ 119 ∷ 105 ∷ 116 ∷ 104 ∷ 105 ∷ 110 ∷ 32 ∷ 115 ∷ 101 ∷ 116 ∷ 32 ∷ []

-- ` outside`
abbrev pub outside_word : List ℕ
outside_word = 32 ∷ 111 ∷ 117 ∷ 116 ∷ 115 ∷ 105 ∷ 100 ∷ 101 ∷ []

-- a newline
abbrev pub end_of-line : List ℕ
end_of-line = 10 ∷ []

-- the room of a line, which the longest fits
abbrev pub room : ℕ
room = 4160

-- a line that cannot be read: its number, and what is wrong
abbrev pub fault_of : ℕ → List ℕ → List ℕ
fault_of number what = line_word ++ decimal_of number ++ colon ++ what ++ end_of-line

-- an item's kind, with its value, its content's length or its count
abbrev pub kind_of : Option Item → List ℕ
kind_of (Some (Unsigned n next)) = unsigned_word ++ decimal_of n
kind_of (Some (Negative n next)) = negative_word ++ negative_of n
kind_of (Some (Bytes start stop)) = bytes_word ++ decimal_of (stop - start)
kind_of (Some (Simple next)) = simple_word
kind_of (Some (Array n at)) = array_word ++ decimal_of n
kind_of (Some (Map n at)) = map_word ++ decimal_of n
kind_of (Some (Set n at)) = set_word ++ decimal_of n
kind_of None = outside_word

-- one item of the subset and its kind, or outside the subset
abbrev pub judgement_of : List ℕ → List ℕ
judgement_of s = cond (is_item s) (kind_of (item_at s 0)) outside_word

-- the whole line
abbrev pub answer_of : List ℕ → List ℕ
answer_of s = hex_of s ++ judgement_of s ++ end_of-line
