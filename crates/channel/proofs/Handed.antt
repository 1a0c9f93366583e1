-- A state that a function is handed has eight slots. Assumes nothing.
use mathlib.Core.Path.{◌≡◌}
use mathlib.Core.List.{List}
use lib.ListN.{length}
use mir.Val.{Val}
use denote.Laws.{Is}
use Rattle.frame.specs.Limits.{slot_count}
use Rattle.channel.specs.declared.Channel.{Channel}
use Rattle.channel.specs.contracts.Channel.{the_row}

-- the path goes past `dead` and `pending` to the array's machine values, of which there are eight
pub eight : (s : Channel) (vs : List Val) → Is the_row s vs → length s.slots ≡ slot_count
eight s vs is = is.1.1.1.1.0.1.0.1
