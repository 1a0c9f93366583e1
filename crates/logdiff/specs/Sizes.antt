-- How much is held of a log. These are definitions: they assume nothing.
use Rattle.std.specs.Prelude.{ℕ}

-- the bytes that are read of a log at a time, and those of the output
abbrev pub room_length : ℕ
room_length = 131072
