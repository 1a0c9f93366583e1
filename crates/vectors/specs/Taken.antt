-- What is read of a line, and what one byte of it does where a digit may stand. These are definitions: they assume nothing.
use Rattle.std.specs.Prelude.{ℕ, ◌+◌, ◌*◌, ◌<◌, min, ◌≡◌, cond, ◌&&◌, replicate, Result, Ok, Err, eqb, leb, ltb}
use Rattle.frame.specs.Limits.{max_command}
use Rattle.vectors.specs.declared.line.Part.{Part}
use Rattle.vectors.specs.declared.line.Part.TheVariants.{Digits, Note, Comment, NotHex, TooLong}
use Rattle.vectors.specs.declared.line.Reading.{Reading}
use Rattle.text.specs.Digit.{digit_of}
use Rattle.vectors.specs.Digits.{digit_at}

-- before the first byte
abbrev pub first_line : Reading
first_line = record { number = 1; held = 0; part = Digits; item = replicate max_command 0 }

-- a line's number and the next one's; the last that 64 bits hold stays
abbrev pub following : ℕ → ℕ
following number = min (number + 1) 18446744073709551615

-- the next line, none of it read
abbrev pub line_after : Reading → Reading
line_after s = record { number = following s.number; held = 0; part = Digits; item = s.item }

-- the part that follows: a space or a tab begins a note, `#` in front a comment, and a digit past the 4,096th is one too many
unfoldable pub part_after : ℕ → ℕ → Part
part_after held b =
    cond (eqb b 32) Note
    (cond (eqb b 9) Note
    (cond (eqb b 35 && eqb held 0) Comment
    (cond (ltb 15 (digit_of b)) NotHex
    (cond (leb (2 * max_command) held) TooLong
    Digits))))

-- the value of a digit that counts, or any other part
abbrev pub digit_or : ℕ → Part → Result ℕ Part
digit_or d Digits = Ok d
digit_or d Note = Err Note
digit_or d Comment = Err Comment
digit_or d NotHex = Err NotHex
digit_or d TooLong = Err TooLong

-- how many digits there are in the part that a byte leads to: where that is digits, the byte was one, and counts
abbrev pub held_in : ℕ → Part → ℕ
held_in held Digits = held + 1
held_in held Note = held
held_in held Comment = held
held_in held NotHex = held
held_in held TooLong = held

-- what is read after the byte b; a digit that counts stands in the item, behind those before it
pub record Taken (s : Reading) (b : ℕ) (r : Reading) : Type 0 where
  pub same_line : r.number ≡ s.number
  pub part : r.part ≡ part_after s.held b
  pub held : r.held ≡ held_in s.held (part_after s.held b)
  pub kept : (j : ℕ) → j < s.held → digit_at r.item j ≡ digit_at s.item j
  pub counted : s.held < r.held → digit_at r.item s.held ≡ digit_of b
