-- What is claimed beside the contracts. These are statements: they assume nothing.
use Rattle.std.specs.Prelude.{ℤ, ◌≡◌}
use Rattle.files.specs.Reasons.{case_of, number_of}

-- the case of a number has that number
abbrev pub NumberBack : Type 0
NumberBack = (z : ℤ) → number_of (case_of z) ≡ z
