-- How near the walk over items is to its end. These are definitions: they assume nothing.
use Rattle.std.specs.Prelude.{ℕ, ◌+◌, ◌-◌, ◌*◌}
use Rattle.arrayvec.specs.ArrayVec.{array_vec_len}
use Rattle.receive.specs.declared.diagnostic.Walk.{Walk}

-- what falls with each step of a walk over n bytes: the bytes left count twice, so that opening a container is a step too
abbrev pub distance : ℕ → Walk → ℕ
distance n w = 2 * (n - w.at) + array_vec_len w.outer
