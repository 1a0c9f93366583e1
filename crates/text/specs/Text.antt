-- Text in a buffer: what putting it there makes of the buffer, and bytes and numbers as text. These are definitions: they assume nothing.
use Rattle.std.specs.Prelude.{ℕ, zero, suc, ◌+◌, ◌-◌, ◌/◌, ◌%◌, min, ◌≡◌, cond, List, [], ◌∷◌, ◌++◌, length, take, ltb}
use Rattle.buffer.specs.Bytes.{write}

-- the position after what fits of the text
abbrev pub end_of : List ℕ → ℕ → List ℕ → ℕ
end_of out at text = at + min (length text) (length out - at)

-- a text was put at `at`, as far as the buffer goes
pub record Added (old : List ℕ) (at : ℕ) (text new : List ℕ) (r : ℕ) : Type 0 where
  pub buffer : new ≡ write old at text
  pub next : r ≡ end_of old at text

-- a text put behind what stands in a line of room for n bytes, as far as the room goes
abbrev pub appended : ℕ → List ℕ → List ℕ → List ℕ
appended n line text = take n (line ++ text)

-- the ASCII code of a digit below 16: `0` to `9`, then `a` to `f`
abbrev pub glyph_of : ℕ → ℕ
glyph_of d = cond (ltb d 10) (48 + d) (87 + d)

-- each byte as two digits, the high one first
unfoldable pub hex_of : List ℕ → List ℕ
hex_of [] = []
hex_of (b ∷ rest) = glyph_of (b / 16) ∷ glyph_of (b % 16) ∷ hex_of rest

-- a number of at most k + 1 decimal digits, in front of a text
unfoldable pub decimal_before : ℕ → ℕ → List ℕ → List ℕ
decimal_before zero n text = (48 + n % 10) ∷ text
decimal_before (suc k) n text = cond (ltb n 10) ((48 + n) ∷ text) (decimal_before k (n / 10) ((48 + n % 10) ∷ text))

-- a number of at most 20 digits in decimal, with no zero in front
unfoldable pub decimal_of : ℕ → List ℕ
decimal_of n = decimal_before 19 n []

-- the number -1-n in decimal
abbrev pub negative_of : ℕ → List ℕ
negative_of n = 45 ∷ decimal_of (n + 1)
