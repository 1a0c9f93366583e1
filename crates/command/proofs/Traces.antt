-- The tables of commands hold: antt computes each row.
-- Assumes nothing.
use mathlib.Core.Path.{refl}
use Rattle.cbor.specs.Cbor.{width, shortest, big_endian, head_value, head_of, head_at, bytes_at, tagged, item_at, repeat, key, pair, value, is_item}
use Rattle.loose.specs.Loose.{any_of, loose_item, loose_pair, loose}
use Rattle.keys.specs.Keys.{part, equal, among, twice}
use Rattle.entries.specs.Entries.{all, any, entry_at, entries, contents, find}
use Rattle.command_map.specs.CommandMap.{allowed, value_under, args_double, double, map_of}
use Rattle.command.specs.Command.{checked}
use Rattle.command.specs.Lookup.{count_of, mark_of, argument_at, integer_at}
use Rattle.command.specs.Traces.{traces, answer_of, TracesHold, marks, MarksHold}

-- a line that names this one unfolds every definition of the check
computes : Type 0
unfolding checked map_of double args_double value_under allowed find contents entries entry_at any all twice among equal part is_item value pair key repeat item_at tagged bytes_at head_at head_of head_value big_endian width
computes = Unit {0}

pub traces_hold : TracesHold
unfolding traces answer_of count_of integer_at argument_at computes
traces_hold = refl

pub marks_hold : MarksHold
unfolding marks mark_of loose loose_pair loose_item any_of shortest computes
marks_hold = refl
