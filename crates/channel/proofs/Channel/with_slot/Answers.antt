-- `Channel::with_slot` meets its contract: the count changes by the one slot alone.
-- Assumes nothing.
use Prim.Native.Nat.{ℕ, ◌+◌, ◌-◌, ◌≤◌}
use mathlib.Core.Path.{◌≡◌}
use mathlib.Core.List.{List}
use native.Mathlib.Omega.{arith}
use lib.ListN.{length, get_or, set}
use Rattle.frame.specs.Limits.{slot_count}
use Rattle.requests.specs.declared.Slot.{Slot}
use Rattle.requests.specs.Phases.{free_slot}
use Rattle.requests.specs.Slots.{used_bit, used_count}
use Rattle.requests.proofs.UsedLaws.{at_most_one, at-most-all, used-set}
use Rattle.channel.specs.declared.Channel.{Channel}
use Rattle.channel.specs.Receiver.{with_active, with_slots, with_slot}
use Rattle.channel.specs.Steps.{CountRight}
use Rattle.channel.proofs.Handed.{eight}
use Rattle.channel.proofs.Channel.with_slot.Goals as goal

-- the slot at the place before and after, and whether they are used
module _ (s : Channel) (i : ℕ) (x : Slot) (changed : List Slot) (before after : Slot) (b a : ℕ) (counts : CountRight s) (changed-is : changed ≡ set s.slots i x)
    (before-is : before ≡ get_or s.slots i free_slot) (after_is : after ≡ get_or changed i free_slot) (b-is : b ≡ used_bit before) (a-is : a ≡ used_bit after) where
  balance : used_count (set s.slots i x) + b ≡ s.active + a
  balance = rw (b-is, before-is, a-is, after_is, changed-is, counts) (used-set s.slots i x)

  pub enough : b ≤ s.active + a
  enough = omega (arith, balance)

  pub changes : with_active (with_slots s changed) (s.active + a - b) ≡ with_slot s i x
  changes =
      let e : s.active + a - b ≡ used_count (set s.slots i x) = omega (arith, balance) in
      rw (e, changed-is)

small : (s : Channel) (x : Slot) (a : ℕ) → length s.slots ≡ slot_count → CountRight s → a ≡ used_bit x → s.active + a ≤ 9
small s x a count counts a-is = omega (arith, at-most-all s.slots, at_most_one x)

pub overflow_add-result : goal.overflow_add-result
overflow_add-result c =
    let few : c.args.self.active + c.used_bit.result ≤ 9 = small c.args.self _ _ (eight c.args.self _ c.well_formed.0) c.requires c.used_bit.ensures in
    record { fits = omega (arith, few) }

pub overflow_sub-result : goal.overflow_sub-result
overflow_sub-result c = enough c.args.self _ _ _ _ _ _ _ c.requires c.with_slot-slots.ensures c.slot_at-before.ensures c.slot_at-after.ensures c.used_bit-2.ensures c.used_bit.ensures

pub returns : goal.returns
returns c = changes c.args.self _ _ _ _ _ _ _ c.requires c.with_slot-slots.ensures c.slot_at-before.ensures c.slot_at-after.ensures c.used_bit-2.ensures c.used_bit.ensures
