-- The messages that are written out, by computation. Assumes nothing.
use mathlib.Core.Path.{refl}
use Rattle.buffer.specs.Bytes.{write}
use Rattle.cbor.specs.Cbor.{width, shortest, big_endian, head_value, head_of, head_at, bytes_at, item_at, repeat, key, pair, value, is_item}
use Rattle.cbor.specs.Heads.{big_bytes, head_bytes, string_bytes}
use Rattle.keys.specs.Keys.{part, equal, among, twice}
use Rattle.entries.specs.Entries.{all, any, entry_at, entries, contents, find}
use Rattle.command_map.specs.CommandMap.{allowed, value_under, args_double, double, map_of}
use Rattle.command.specs.Command.{checked}
use Rattle.frame.specs.Header.{header_bytes}
use Rattle.frame.specs.Frame.{is_even, frame_bytes}
use Rattle.sender.specs.Parts.{command_bytes}
use Rattle.sender.specs.Frames.{stream_flags, command_flags, data_flags, frames, full_frames, command_frames, data_frames, message_frames, all_bytes, total}
use Rattle.sender.specs.Send.{frames_into, send_of}
use Rattle.round_trip.specs.Traces.{Traces}

pub traces : Traces
unfolding send_of frames_into total all_bytes message_frames data_frames command_frames full_frames frames data_flags command_flags stream_flags command_bytes frame_bytes is_even header_bytes checked map_of double args_double value_under allowed find contents entries entry_at any all twice among equal part string_bytes head_bytes shortest big_bytes is_item value pair key repeat item_at bytes_at head_at head_of head_value big_endian width write
traces = record { first = refl; short = refl; small = refl }
