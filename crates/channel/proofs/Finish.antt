-- Finish on the state alone, case by case.
-- Assumes nothing.
use Prim.Native.Nat.{ℕ, zero, suc}
use mathlib.Core.Path.{◌≡◌, refl, ap, ◌∙◌}
use mathlib.Core.Bool.{Bool, true, false}
use native.Mathlib.Omega.{arith}
use lib.ListN.{get_or}
use Rattle.requests.specs.declared.Slot.{Slot}
use Rattle.requests.specs.Phases.{can_finish, free_slot}
use Rattle.requests.specs.Slots.{finish_slot}
use Rattle.session.specs.Session.{Reply}
use Rattle.channel.specs.declared.Channel.{Channel}
use Rattle.channel.specs.Receiver.{with_slot, slot_at, place_of, slot_of, with_finished, finish_state}

module _ (s : Channel) (id : ℕ) where
  by-dead : (d : ℕ) (z : Reply Channel) → (d ≡ 0 → ⊥) → ◌≡◌ {A = Reply Channel} (elim d as (λ _. Reply Channel) [ suc n ↦ record { next = s; number = suc n } | zero ↦ z ]) (record { next = s; number = d })
  by-dead zero z h = absurd (h refl)
  by-dead (suc n) z h = refl

  by-live : (d : ℕ) (z : Reply Channel) → d ≡ 0 → ◌≡◌ {A = Reply Channel} (elim d as (λ _. Reply Channel) [ suc n ↦ record { next = s; number = suc n } | zero ↦ z ]) z
  by-live zero z h = refl
  by-live (suc n) z h = let e : ◌≡◌ {A = ℕ} 0 1 = cc in absurd (omega arith)

  pub finish-dead : (s.dead ≡ 0 → ⊥) → finish_state s id ≡ record { next = s; number = s.dead }
  unfolding finish_state
  finish-dead h = by-dead s.dead _ h

  -- by whether finish accepts the id
  abbrev chosen : Bool → Reply Channel
  chosen t = elim t as (λ _. Reply Channel) [ true ↦ record { next = with_finished s id; number = 0 } | false ↦ record { next = s; number = 4 } ]

  by-phase : (t : Bool) → s.dead ≡ 0 → can_finish (slot_of s id).phase ≡ t → finish_state s id ≡ chosen t
  unfolding finish_state
  by-phase t h e = by-live s.dead _ h ∙ ap chosen e

  -- with the slot at the place that was found
  module _ (i : ℕ) (x : Slot) (i-is : i ≡ place_of s id) (x-is : x ≡ get_or s.slots i free_slot) (live : s.dead ≡ 0) where
    own : x ≡ slot_of s id
    unfolding slot_at
    own = x-is ∙ ap (λ (k : ℕ). get_or s.slots k free_slot) i-is

    pub accepts : can_finish x.phase ≡ true → finish_state s id ≡ record { next = with_slot s i (finish_slot x); number = 0 }
    unfolding with_finished
    accepts h = by-phase true live (rw (← own) h) ∙ rw (i-is, own)

    pub refuses : can_finish x.phase ≡ false → finish_state s id ≡ record { next = s; number = 4 }
    refuses h = by-phase false live (rw (← own) h)
