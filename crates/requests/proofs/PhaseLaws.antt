-- Two phases are the same one exactly if their numbers are equal.
-- Assumes nothing.
use Rattle.std.proofs.Common.{◌≡◌, refl}
use denote.Enum.Bare.{sameb}
use Rattle.requests.specs.contracts.Phase.{the_type}
use Rattle.requests.specs.declared.Phase.{Phase}
use Rattle.requests.specs.declared.Phase.TheVariants.{Free, Collecting, Waiting, Running, Draining}
use Rattle.requests.specs.Phases.{code, is_phase}

pub same_is : (p q : Phase) → sameb the_type q p ≡ is_phase p q
unfolding is_phase code
same_is Free q = elim q as (λ v. sameb the_type v Free ≡ is_phase Free v) [ Free ↦ refl | Collecting ↦ refl | Waiting ↦ refl | Running ↦ refl | Draining ↦ refl ]
same_is Collecting q = elim q as (λ v. sameb the_type v Collecting ≡ is_phase Collecting v) [ Free ↦ refl | Collecting ↦ refl | Waiting ↦ refl | Running ↦ refl | Draining ↦ refl ]
same_is Waiting q = elim q as (λ v. sameb the_type v Waiting ≡ is_phase Waiting v) [ Free ↦ refl | Collecting ↦ refl | Waiting ↦ refl | Running ↦ refl | Draining ↦ refl ]
same_is Running q = elim q as (λ v. sameb the_type v Running ≡ is_phase Running v) [ Free ↦ refl | Collecting ↦ refl | Waiting ↦ refl | Running ↦ refl | Draining ↦ refl ]
same_is Draining q = elim q as (λ v. sameb the_type v Draining ≡ is_phase Draining v) [ Free ↦ refl | Collecting ↦ refl | Waiting ↦ refl | Running ↦ refl | Draining ↦ refl ]
