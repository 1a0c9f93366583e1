-- The entries that are to come, and their keys. No public promise cites this.
use Rattle.std.specs.Prelude.{ℕ, ◌≡◌, List, length}
use Rattle.keys.specs.Keys.{part}
use Rattle.entries.specs.declared.Entry.{Entry}
use Rattle.entries.specs.Entries.{entries, contents}
use Rattle.double_keys.specs.declared.walk.Entries.{Entries}

abbrev pub to_come : Entries → List Entry
to_come x = entries x.s.now x.levels x.left x.at

-- the contents of their keys that are byte strings
abbrev pub keys_to_come : Entries → List (List ℕ)
keys_to_come x = contents x.s.now (to_come x)

-- y has what x has, in what s has from the position on
abbrev pub FromHere : Entries → Entries → Type 0
FromHere x y = (y.s.now ≡ part x.s.now x.at (length x.s.now)) × (y.levels ≡ x.levels) × (y.left ≡ x.left) × (y.at ≡ 0)
