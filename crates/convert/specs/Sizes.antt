-- How much is held of a log. These are definitions: they assume nothing.
use Rattle.std.specs.Prelude.{ℕ}

-- the longest record with a two-byte length
abbrev pub longest_old : ℕ
longest_old = 65539

-- the bytes that are held and read at a time
abbrev pub room_length : ℕ
room_length = 131072
