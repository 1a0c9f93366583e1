-- How the number of used slots changes: a new frame that is accepted makes it one more, the last data frame of a request that drains and the
-- finish of one that runs make it one less, and all else leaves it. Assumes nothing.
use Prim.Native.Nat.{ℕ, ◌+◌, ◌≤◌, ◌<◌}
use mathlib.Core.Path.{◌≡◌, refl}
use mathlib.Core.Bool.{Bool, true, false, cond, ◌&&◌, ◌||◌, not}
use mathlib.Core.List.{List}
use native.Mathlib.Omega.{arith}
use lib.ListN.{length, get_or, set}
use lib.Seq.{get_or-set_same}
use lib.Dec.{eqb}
use Rattle.requests.specs.declared.Phase.TheVariants.{Free, Collecting, Waiting, Running, Draining}
use Rattle.requests.specs.declared.Slot.{Slot}
use Rattle.requests.specs.Phases.{free_slot, is_phase, can_finish, code}
use Rattle.requests.specs.Slots.{in_phase, slots_fit, used_bit, used_count, enter, data_slot, finish_slot}
use Rattle.requests.proofs.UsedLaws.{used-is, used-set}
use Rattle.frame.specs.Limits.{slot_count, work_area}
use Rattle.frame.specs.Frame.{Frame, is_type, is_new, is_more, data_follows, is_last}
use Rattle.frame.specs.Records.{bit}
use Rattle.rules.specs.Rules.{is_command, first_broken, rules}
use Rattle.channel.specs.declared.Channel.{Channel}
use Rattle.channel.specs.Receiver.{slot_at, place_of, slot_of, lowest_free, target, command_slot, slots_after, view_of}
use Rattle.channel.proofs.SlotLaws.{inside}
use Rattle.rules.proofs.Bools.{clash}
use Rattle.rules.proofs.StageLaws.{no_other}
use Rattle.channel.proofs.PhaseLaws.{other-phase, used, takes-used, finish-used}
use Rattle.channel.proofs.ReceiverLaws.{room, takes}
use Rattle.demands.proofs.SeenLaws.{lowest_is-free, collects}

-- a slot put for another, by whether each is free
changed : (xs : List Slot) (i : ℕ) (y : Slot) (before after : Bool) → i < length xs → in_phase Free (get_or xs i free_slot) ≡ before → in_phase Free y ≡ after
    → used_count (set xs i y) + cond before 0 1 ≡ used_count xs + cond after 0 1
unfolding bit
changed xs i y before after l a b = go before after (used-is (get_or xs i free_slot) before a) (used-is y after b)
  where
    whole : used_count (set xs i y) + used_bit (get_or xs i free_slot) ≡ used_count xs + used_bit y
    whole = rw (get_or-set_same xs i y free_slot l) at (used-set xs i y)

    go : (t u : Bool) → used_bit (get_or xs i free_slot) ≡ bit (not t) → used_bit y ≡ bit (not u) → used_count (set xs i y) + cond t 0 1 ≡ used_count xs + cond u 0 1
    go true true p q = omega (arith, whole)
    go true false p q = omega (arith, whole)
    go false true p q = omega (arith, whole)
    go false false p q = omega (arith, whole)

-- ---- a frame that is accepted

-- the slot that a command frame leaves is used
command-used : (s : Channel) (f : Frame) → in_phase Free (command_slot s f) ≡ false
unfolding command_slot is_phase code
command-used s f = go (is_more f) (data_follows f)
  where
    go : (m d : Bool) → eqb (code (cond m Collecting (cond d Waiting Running))) 0 ≡ false
    go true d = refl
    go false true = refl
    go false false = refl

-- and so is a used one after a data frame, unless that ends a drain
data_used : (x : Slot) (f : Frame) → in_phase Free x ≡ false → in_phase Free (data_slot x f) ≡ (is_last f && in_phase Draining x)
unfolding data_slot enter is_phase code
data_used x f u = go (is_last f) (in_phase Draining x)
  where
    go : (l d : Bool) → in_phase Free (cond l (cond d free_slot (enter Running x)) x) ≡ (l && d)
    go true true = refl
    go true false = refl
    go false d = u

module _ (s : Channel) (f : Frame) (w : List ℕ) (wide : work_area ≤ length w) (count : length s.slots ≡ slot_count) (fit : slots_fit s.slots ≡ true) (e : first_broken rules f (view_of s f w) ≡ 0) where
  abbrev xs : List Slot
  xs = s.slots

  by-command : is_command f ≡ true → (t : Bool) → is_new f ≡ t → cond t (lowest_free s) (place_of s f.request) < length xs
      → used_count (set xs (cond t (lowest_free s) (place_of s f.request)) (command_slot s f)) ≡ bit t + used_count xs
  unfolding slot_at bit code
  by-command c true n l = omega (arith, changed xs (lowest_free s) (command_slot s f) true false l (lowest_is-free s) (command-used s f))
  by-command c false n l =
      omega (arith, changed xs (place_of s f.request) (command_slot s f) false false l (used Collecting (slot_of s f.request).phase refl (collects s f w wide count fit e c n)) (command-used s f))

  abbrev own : Slot
  own = slot_of s f.request

  by_data : (t : Bool) → is_type 2 f ≡ t
      → used_count (cond t (set xs (place_of s f.request) (data_slot own f)) xs) + bit (t && is_last f && in_phase Draining own) ≡ used_count xs
  unfolding slot_at bit
  by_data true t = go (is_last f && in_phase Draining own) (data_used own f u)
    where
      u : in_phase Free own ≡ false
      u = takes-used own.phase (takes s f w wide count fit e t)

      go : (d : Bool) → in_phase Free (data_slot own f) ≡ d → used_count (set xs (place_of s f.request) (data_slot own f)) + bit d ≡ used_count xs
      go true q = omega (arith, changed xs (place_of s f.request) (data_slot own f) false true (inside xs (place_of s f.request) u) u q)
      go false q = omega (arith, changed xs (place_of s f.request) (data_slot own f) false false (inside xs (place_of s f.request) u) u q)
  by_data false t = omega arith

  pub grows : used_count (slots_after s f) + bit (is_type 2 f && is_last f && in_phase Draining own) ≡ bit (is_command f && is_new f) + used_count xs
  unfolding slots_after target rules view_of bit
  grows = go (is_command f) refl
    where
      go : (c : Bool) → is_command f ≡ c
          → used_count (cond c (set xs (target s f) (command_slot s f)) (cond (is_type 2 f) (set xs (place_of s f.request) (data_slot own f)) xs)) + bit (is_type 2 f && is_last f && in_phase Draining own)
          ≡ bit (c && is_new f) + used_count xs
      go true c = rw (no_other f 2 refl c) (omega (arith, by-command c (is_new f) refl (omega (arith, count, (room s f w wide count fit 0 refl refl refl c e).0))))
      go false c = omega (arith, by_data (is_type 2 f) refl)

-- ---- a finish that is accepted

pub shrinks : (s : Channel) (id : ℕ) → can_finish (slot_of s id).phase ≡ true
    → used_count (set s.slots (place_of s id) (finish_slot (slot_of s id))) + bit (in_phase Running (slot_of s id)) ≡ used_count s.slots
unfolding slot_at finish_slot enter is_phase code bit
shrinks s id e = go (in_phase Waiting x) (in_phase Running x) refl refl e
  where
    x : Slot
    x = slot_of s id

    u : in_phase Free x ≡ false
    u = finish-used x.phase e

    put : (y : Slot) (t : Bool) → in_phase Free y ≡ t → used_count (set s.slots (place_of s id) y) + 1 ≡ used_count s.slots + cond t 0 1
    put y t q = changed s.slots (place_of s id) y false t (inside s.slots (place_of s id) u) u q

    go : (w t : Bool) → in_phase Waiting x ≡ w → in_phase Running x ≡ t → (w || t) ≡ true → used_count (set s.slots (place_of s id) (cond w (enter Draining x) free_slot)) + bit t ≡ used_count s.slots
    go true true a b q = clash b (other-phase Waiting Running x.phase refl a)
    go true false a b q = omega (arith, put (enter Draining x) false refl)
    go false true a b q = omega (arith, put free_slot true refl)
    go false false a b q = clash q refl
