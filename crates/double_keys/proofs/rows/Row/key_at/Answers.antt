-- `double_keys::rows::Row::key_at` meets its contract: a place in s is the part of s.
-- Assumes nothing.
use mathlib.Core.Path.{refl}
use Rattle.keys.specs.Keys.{part}
use Rattle.double_keys.specs.Search.{key_of}
use Rattle.double_keys.proofs.rows.Row.key_at.Goals as goal

pub returns : goal.returns
unfolding key_of part
returns c = refl
