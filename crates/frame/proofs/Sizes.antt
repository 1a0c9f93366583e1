-- The sizes of document 01 hang together.
-- Assumes nothing.
use mathlib.Core.Path.{refl}
use native.Mathlib.Omega.{arith}
use Rattle.frame.specs.Records.{record_of}
use Rattle.frame.specs.Laws.{Sizes}

pub sizes : Sizes
unfolding record_of
sizes = record { area = refl; longest = λ kind request third payload h. omega arith; work = refl }
