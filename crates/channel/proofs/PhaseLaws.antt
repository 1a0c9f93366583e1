-- A phase is no other phase, and a request of a phase other than free is active. Assumes nothing.
use mathlib.Core.Path.{◌≡◌, refl, sym, ◌∙◌}
use mathlib.Core.Bool.{true, false}
use lib.Dec.{eqb}
use borrow.Author.Tests.{eqb-true, eqb-false, ne_eqb}
use Rattle.requests.specs.declared.Phase.{Phase}
use Rattle.requests.specs.declared.Phase.TheVariants.{Free, Waiting, Running, Draining}
use Rattle.requests.specs.Phases.{is_phase, takes_data, can_finish, code}
use Rattle.rules.proofs.Bools.{by_or}

pub other-phase : (p q z : Phase) → eqb (code p) (code q) ≡ false → is_phase p z ≡ true → is_phase q z ≡ false
unfolding is_phase
other-phase p q z n e = ne_eqb (code z) (code q) (λ k. eqb-false (code p) (code q) n (sym (eqb-true (code z) (code p) e) ∙ k))

pub used : (p z : Phase) → eqb (code p) 0 ≡ false → is_phase p z ≡ true → is_phase Free z ≡ false
unfolding code
used p z n e = other-phase p Free z n e

pub takes-used : (z : Phase) → takes_data z ≡ true → is_phase Free z ≡ false
unfolding code
takes-used z h = by_or (is_phase Waiting z) (is_phase Draining z) (used Waiting z refl) (used Draining z refl) h

pub finish-used : (z : Phase) → can_finish z ≡ true → is_phase Free z ≡ false
unfolding code
finish-used z h = by_or (is_phase Waiting z) (is_phase Running z) (used Waiting z refl) (used Running z refl) h
