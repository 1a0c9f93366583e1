-- The sizes of document 01, in one place.
-- These are definitions: they assume nothing.
use Rattle.std.specs.Prelude.{ℕ, ◌+◌, ◌*◌}

abbrev pub max_payload : ℕ
max_payload = 65535

abbrev pub max_command : ℕ
max_command = 2048

abbrev pub slot_count : ℕ
slot_count = 8

abbrev pub stream_count : ℕ
stream_count = 128

-- the longest record: six bytes before a body of three bytes and a payload
abbrev pub longest_record : ℕ
longest_record = 65544

-- the places for the frame under way
abbrev pub frame_area : ℕ
frame_area = 65543

-- where a slot's part of the work area starts
abbrev pub part_start : ℕ → ℕ
part_start i = frame_area + max_command * i

abbrev pub work_area : ℕ
work_area = 81927
