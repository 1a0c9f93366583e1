-- A command, as document 01, "Command bytes", states it: the refusals 24, 25 and 26, tried in that order.
-- Definitions on the list of a command's bytes: they assume nothing.
use Rattle.std.specs.Prelude.{ℕ, List, Ok, Err, cond}
use Rattle.cbor.specs.Cbor.{if_map, item_at, is_item}
use Rattle.entries.specs.Entries.{entries}
use Rattle.command_map.specs.declared.Refusal.TheVariants.{NotItem, NotCommand}
use Rattle.command_map.specs.CommandMap.{Checked, refusal_number, map_of}

-- the check: 24 unless the bytes are one item of the subset, 25 unless it is a map, and then what the map's entries say
unfoldable pub checked : List ℕ → Checked
checked s = cond (is_item s) (if_map (item_at s 0) (λ n at. map_of s (entries s 7 n at)) (Err NotCommand)) (Err NotItem)

-- what the check found goes to f, or the refusal number to g
abbrev pub if_command : {A : Type 0} → Checked → (ℕ → ℕ → ℕ → ℕ → A) → (ℕ → A) → A
if_command (Ok c) f g = f c.start c.stop c.count c.first
if_command (Err x) f g = g (refusal_number x)

-- document 01's number of each answer
abbrev pub number_of : Checked → ℕ
number_of c = if_command c (λ start stop count first. 0) (λ n. n)
