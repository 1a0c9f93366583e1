-- The worked examples hold: antt computes each.
-- Assumes nothing.
use mathlib.Core.Path.{refl}
use Rattle.buffer.specs.Bytes.{write}
use Rattle.cbor.specs.Cbor.{width, big_endian, head_value, head_of, head_at, bytes_at, tagged, item_at, repeat, key, pair, value, is_item}
use Rattle.keys.specs.Keys.{part, equal, among, twice}
use Rattle.entries.specs.Entries.{all, any, entry_at, entries, contents, find}
use Rattle.command_map.specs.CommandMap.{allowed, value_under, args_double, double, map_of}
use Rattle.command.specs.Command.{checked}
use Rattle.command.specs.Lookup.{name_of, count_of, argument_at, integer_at}
use Rattle.board.specs.Commands.{is_true, is_switch, text_item, set_change, label_change, by_name, change_of}
use Rattle.board.specs.Board.{first_board, applied, after}
use Rattle.board.specs.Traces.{traces, session, ended, TracesHold, SessionEnds}

pub traces_hold : TracesHold
unfolding traces change_of by_name label_change set_change text_item is_switch is_true integer_at argument_at count_of name_of checked map_of double args_double value_under allowed find contents entries entry_at any all twice among equal part is_item value pair key repeat item_at tagged bytes_at head_at head_of head_value big_endian width
traces_hold = refl

pub session-ends : SessionEnds
unfolding session ended after applied first_board write change_of by_name label_change set_change text_item is_switch is_true integer_at argument_at count_of name_of checked map_of double args_double value_under allowed find contents entries entry_at any all twice among equal part is_item value pair key repeat item_at tagged bytes_at head_at head_of head_value big_endian width
session-ends = refl
