-- `read_value` at l levels calls the other two at l - 1, and these read values at the levels that they are given: 3l for `read_value`, 3l + 2
-- for the others, and 3l + 1 for what these hand to `repeat`, between them.
use Rattle.std.proofs.Common.{◌+◌, ◌*◌}
use Rattle.cbor.proofs.+read_array_read_map_read_value.Given as goal

abbrev pub decreases-read_map-repeat : goal.decreases-read_map-repeat
decreases-read_map-repeat l = 3 * l.levels + 1

abbrev pub decreases-read_array-repeat : goal.decreases-read_array-repeat
decreases-read_array-repeat l = 3 * l.levels + 1

abbrev pub decreases-read_array : goal.decreases-read_array
decreases-read_array l = 3 * l.levels + 2

abbrev pub decreases-read_map : goal.decreases-read_map
decreases-read_map l = 3 * l.levels + 2

abbrev pub decreases-read_value : goal.decreases-read_value
decreases-read_value l = 3 * l.levels
