-- What a byte means as a hex digit. These are definitions: they assume nothing.
use Rattle.std.specs.Prelude.{ℕ, ◌-◌, Bool, cond, ◌&&◌, leb, ltb, Option, Some, None}

-- b lies from `low` to `high`
unfoldable pub between : ℕ → ℕ → ℕ → Bool
between low high b = leb low b && leb b high

-- `0` to `9`, `A` to `F`, `a` to `f`, and 16 for any other byte
unfoldable pub digit_of : ℕ → ℕ
digit_of b =
    cond (between 48 57 b) (b - 48)
    (cond (between 65 70 b) (b - 55)
    (cond (between 97 102 b) (b - 87)
    16))

-- the same as an answer: none where the byte is no digit
abbrev pub as_digit : ℕ → Option ℕ
as_digit b = cond (ltb (digit_of b) 16) (Some (digit_of b)) None
