-- Answering early: a finish lets a request that waits drain, its data then gives no record, and the last of it frees the slot. What the request
-- sees is `SeenLaws`, how the count changes `ActiveLaws`. Assumes nothing.
use Prim.Native.Nat.{ℕ, ◌+◌, ◌≤◌}
use mathlib.Core.Path.{◌≡◌, refl, ap, ◌∙◌}
use mathlib.Core.Bool.{Bool, true, false, cond}
use mathlib.Core.List.{List, []}
use native.Mathlib.Omega.{arith}
use lib.ListN.{length, length-set}
use Rattle.requests.specs.declared.Phase.TheVariants.{Free, Waiting, Running, Draining}
use Rattle.requests.specs.Phases.{is_phase, code}
use Rattle.requests.specs.Slots.{in_phase, slots_fit, used_count}
use Rattle.frame.specs.Limits.{slot_count, work_area}
use Rattle.frame.specs.Frame.{Frame, frame_of, is_type, is_last}
use Rattle.frame.specs.Records.{bit}
use Rattle.rules.specs.Rules.{is_command, record_with, first_broken, rules}
use Rattle.rules.proofs.Bools.{or_l, or_r, clash}
use Rattle.session.specs.Session.{Step, Reply}
use Rattle.session.proofs.Laws.{own_is}
use Rattle.channel.specs.declared.Channel.{Channel}
use Rattle.channel.specs.Receiver.{Receiver, slot_at, place_of, slot_of, with_finished, slots_after, refused, accepted, put, is_whole, take_byte, finish, view_of}
use Rattle.channel.specs.Channel.{channel}
use Rattle.channel.proofs.PhaseLaws.{other-phase}
use Rattle.channel.proofs.ReceiverLaws.{Ok, keeps, live-case}
use Rattle.demands.specs.Request.{Request, is_in, idle, enters, moved, ending}
use Rattle.demands.specs.Demands.{Drains, EarlyFinish, Drained, DrainedFrame}
use Rattle.demands.proofs.Demand3.{ok}
use Rattle.demands.proofs.SeenLaws.{seen, never, Finished, taken, stays, finish_cases, finish-own, not-command, moved_data, own-frame}
use Rattle.demands.proofs.ActiveLaws.{grows, shrinks}

-- ---- the finish

module _ (r : Receiver) (id : ℕ) (k : Ok r) (waits : in_phase Waiting (slot_of r.state id) ≡ true) where
  -- what the request sees of its own finish
  then_drains : moved (seen id r) ending ≡ enters Draining (seen id r)
  unfolding moved seen
  then_drains = rw waits

  drains : (a : Reply Receiver) → Finished r id a → seen id a.next ≡ enters Draining (seen id r) → Drains r id a
  unfolding seen enters with_finished is_phase code bit
  drains a (stays e) q = clash (or_l (in_phase Waiting (slot_of r.state id)) (in_phase Running (slot_of r.state id)) waits) e
  drains a (taken e) q =
      let x = slot_of r.state id in
      let none : in_phase Running x ≡ false = other-phase Waiting Running x.phase refl waits in
      record {
        number = refl;
        phase = ap (is_in Draining) q;
        active = omega (arith, k.active, rw none at (shrinks r.state id e));
        work = refl;
      }

pub early-finish : EarlyFinish
early-finish r s d id waits =
    let k = ok r s in
    let c = finish_cases r id d in
    rw (own_is channel keeps r id k) (drains r id k waits (finish r id) c (finish-own id r k (finish r id) c ∙ then_drains r id k waits))

-- ---- a frame of it

module _ (r : Receiver) (b : ℕ) (k : Ok r) where
  abbrev p : Receiver
  p = put r b

  abbrev s : Channel
  s = p.state

  abbrev w : List ℕ
  w = p.work

  abbrev f : Frame
  f = frame_of w

  wide : work_area ≤ length w
  unfolding put
  wide = rw length-set k.work

  count : length s.slots ≡ slot_count
  unfolding put
  count = k.count

  fit : slots_fit s.slots ≡ true
  unfolding put
  fit = k.slots

  module _ (z : first_broken rules f (view_of s f w) ≡ 0) (t : is_type 2 f ≡ true) (drains : in_phase Draining (slot_of s f.request) ≡ true) where
    no_command : is_command f ≡ false
    no_command = not-command s f w wide count fit z t

    no_record : record_with f (view_of s f w) ≡ []
    unfolding record_with view_of code
    no_record = rw (no_command, t, other-phase Draining Waiting (slot_of s f.request).phase refl drains)

    before : Request
    before = seen f.request p

    after : seen f.request (accepted s f w).next ≡ cond (is_last f) idle before
    unfolding before seen
    after =
        own-frame s f w wide count fit z (or_r (is_command f) (is_type 2 f) t)
        ∙ moved_data s f w wide count fit z t before
        ∙ rw drains

    counted : (l : Bool) → is_last f ≡ l → used_count (slots_after s f) + bit l ≡ r.state.active
    unfolding put bit
    counted true l = omega (arith, k.active, rw (no_command, t, l, drains) at (grows s f w wide count fit z))
    counted false l = omega (arith, k.active, rw (no_command, t, l) at (grows s f w wide count fit z))

    accepted_drained : Drained r f (accepted s f w)
    unfolding accepted before seen idle is_phase code bit
    accepted_drained = record {
      records = no_record;
      last = λ l. (ap (is_in Free) (after ∙ ap (λ (x : Bool). cond x idle before) l), counted true l);
      more = λ l. (ap (is_in Draining) (after ∙ ap (λ (x : Bool). cond x idle before) l) ∙ drains, omega (arith, counted false l));
    }

  abbrev Goal : Step Receiver → Type 0
  Goal q = q.next.state.dead ≡ 0 → Drained r f q

  frame_drained : r.state.dead ≡ 0 → is_whole p ≡ true → is_type 2 f ≡ true → in_phase Draining (slot_of s f.request) ≡ true → Goal (take_byte r b)
  unfolding refused
  frame_drained d h t drains =
      live-case r b Goal d
      (λ q. never 10 q)
      (λ a o. clash h o)
      (λ a _ z _. accepted_drained z t drains)
      (λ n a _ z q. never n q)

pub drained_frame : DrainedFrame
unfolding put slot_at place_of
drained_frame r s d b h t drains = frame_drained r b (ok r s) d h t drains
