-- `command::check` meets its contract where the first item is a map, by the walk over it.
-- Assumes nothing.
use Rattle.cbor.specs.Cbor.{is_item, value}
use Rattle.command_map.specs.CommandMap.{map_checked}
use Rattle.command.specs.Command.{checked}
use Rattle.command.proofs.check.Goals as goal

pub returns : goal.returns
unfolding checked is_item value map_checked
returns c = rw (← c.read_item.ensures, c.in-Some-Map.is, c.in-Some-Map.field-0-is) c.map_of.ensures
