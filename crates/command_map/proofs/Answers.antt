-- What a key that stands twice in the outer map, or none, does to an answer; and an answer that is known to be a refusal.
-- Assumes nothing.
use Rattle.std.specs.Prelude.{Ok, Err}
use mathlib.Core.Path.{◌≡◌, refl}
use mathlib.Core.Bool.{false}
use Rattle.std.specs.Result.{IsErrAnd}
use Rattle.command_map.specs.declared.Refusal.{Refusal}
use Rattle.command_map.specs.CommandMap.{Checked}
use Rattle.command_map.specs.Walk.{also_double}

-- where no key stands twice the answer stays
pub still-single : (c : Checked) → also_double false c ≡ c
still-single (Ok c) = refl
still-single (Err x) = refl

pub err-is : (r : Checked) (x : Refusal) → IsErrAnd r (λ e. e ≡ x) → r ≡ Err x
err-is (Ok c) x h = absurd h
err-is (Err e) x h = rw h
