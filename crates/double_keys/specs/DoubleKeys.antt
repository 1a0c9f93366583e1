-- The keys of a map: whether all are byte strings, and whether one stands twice.
-- These are definitions: they assume nothing.
use Rattle.std.specs.Prelude.{ℕ, List, Bool, cond}
use Rattle.keys.specs.Keys.{twice}
use Rattle.entries.specs.declared.Entry.{Entry}
use Rattle.entries.specs.Entries.{all, is_keyed, contents}
use Rattle.double_keys.specs.declared.Keys.{Keys}
use Rattle.double_keys.specs.declared.Keys.TheVariants.{Single, Double, Others}

-- all byte strings: one twice, or each once
abbrev pub strings_keys : Bool → Keys
strings_keys double = cond double Double Single

-- the keys of a map: not all byte strings, or all of them
unfoldable pub keys_of : List ℕ → List Entry → Keys
keys_of s es = cond (all is_keyed es) (strings_keys (twice (contents s es))) Others
