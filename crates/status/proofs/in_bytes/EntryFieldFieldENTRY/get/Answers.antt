-- `EntryField::get` meets its contract: a number that no phase has is read as a free slot's.
use Rattle.std.proofs.Common.{◌≡◌, ℕ, ◌<◌, zero, suc, refl, ◌∙◌, ap, rules, arith}
use Rattle.std.specs.Prelude.{Result, Ok, Err}
use Rattle.std.specs.Result.{result_unwrap_or}
use Rattle.requests.specs.declared.Phase.{Phase}
use Rattle.requests.specs.declared.Phase.TheVariants.{Free, Collecting, Waiting, Running, Draining}
use Rattle.requests.specs.declared.NoPhase.{NoPhase}
use Rattle.requests.specs.Phases.{code, Decodes}
use Rattle.layout.specs.State.{phase_of}
use Rattle.status.proofs.in_bytes.EntryFieldFieldENTRY.get.Goals as goal

back : (p : Phase) → p ≡ phase_of (code p)
unfolding phase_of code
back Free = refl
back Collecting = refl
back Waiting = refl
back Running = refl
back Draining = refl

other : (n : ℕ) → 4 < n → Free ≡ phase_of n
unfolding phase_of
other zero h = refl
other (suc zero) h = absurd (omega arith)
other (suc (suc zero)) h = absurd (omega arith)
other (suc (suc (suc zero))) h = absurd (omega arith)
other (suc (suc (suc (suc zero)))) h = absurd (omega arith)
other (suc (suc (suc (suc (suc n))))) h = refl

read-is : (n : ℕ) (r : Result Phase NoPhase) → Decodes n r → result_unwrap_or r Free ≡ phase_of n
read-is n (Ok p) e = back p ∙ ap phase_of e
read-is n (Err e) (a, b) = other n b

pub returns : goal.returns
returns c =
    let p = c.unwrap_or.ensures ∙ read-is _ _ c.try_from.ensures in
    rw p (search rules)
