-- `Channel::other` meets its contract: the rules that are left refuse the frame, or it is taken as data or as settings.
-- Assumes nothing.
use Prim.Native.Nat.{ℕ, ◌+◌, ◌-◌, ◌≤◌}
use mathlib.Core.Path.{◌≡◌, refl, sym, ap, ◌∙◌}
use mathlib.Core.Bool.{Bool, true, false}
use mathlib.Core.List.{List, []}
use native.Mathlib.Omega.{arith}
use lib.ListN.{length, take, drop, get_or}
use borrow.Author.Rules.{rules}
use borrow.Author.Tests.{eq-eqb}
use Rattle.std.specs.Prelude.{Some, ◌&&◌, not, eqb}
use Rattle.buffer.specs.Bytes.{write}
use Rattle.frame.specs.declared.Header.{Header}
use Rattle.frame.specs.Limits.{max_payload, slot_count}
use Rattle.frame.specs.Header.{header_of}
use Rattle.frame.specs.Frame.{framed, is_last, is_type}
use Rattle.frame.specs.Records.{bit, request_record}
use Rattle.requests.specs.declared.Phase.TheVariants.{Free, Waiting}
use Rattle.requests.specs.declared.Slot.{Slot}
use Rattle.requests.specs.Phases.{free_slot, is_phase, takes_data}
use Rattle.requests.proofs.PhaseLaws.{same_is}
use Rattle.requests.proofs.Search.{at-some, at-place}
use Rattle.rules.specs.declared.Met.{Met}
use Rattle.rules.specs.Rules.{rules as all_rules, first_broken}
use Rattle.rules.specs.Stages.{number_of, broken_of, viewed, last_rules}
use Rattle.rules.proofs.Bools.{and_no, no_not, not_no}
use Rattle.rules.proofs.RuleLaws.{passed, number-some, ok-zero}
use Rattle.session.specs.Session.{Feed}
use Rattle.channel.specs.declared.Channel.{Channel}
use Rattle.channel.specs.declared.Fed.{Fed}
use Rattle.requests.specs.Slots.{place_at, in_phase, data_slot}
use Rattle.channel.specs.Receiver.{Receiver, with_slot, slot_at}
use Rattle.channel.specs.Channel.{fed_with}
use Rattle.channel.specs.Steps.{judged_into, Passed, refused_with, accepted_with}
use Rattle.channel.proofs.Handed.{eight}
use Rattle.channel.proofs.JudgeLaws.{place_in, met-same, passes_same, answers-last, answers_data, answers_drain, answers_settings}
use Rattle.channel.proofs.SlotLaws.{inside}
use Rattle.channel.proofs.PhaseLaws.{takes-used}
use Rattle.channel.proofs.Channel.other.Goals as goal

-- the contract over plain values, with what the caller shows and the number of the slots
module _ {s : Channel} {h : Header} {m : Met} {w : List ℕ} (kind : h.kind ≡ 1 → ⊥) (p : Passed s h m w) (count : length s.slots ≡ slot_count) (out : List ℕ) (done : ℕ) where
  abbrev whole : Feed Receiver
  whole = judged_into out done s w

  -- the payload, as the code cuts it out
  abbrev payload : List ℕ
  payload = take (8 + h.length - 8) (drop 8 w)

  abbrev number : ℕ
  number = first_broken last_rules (framed h payload) (viewed m h [])

  abbrev new : ℕ → List ℕ
  new third = request_record 2 h.request third payload

  cut : 8 + h.length - 8 ≡ h.length
  cut = omega arith

  kind-same : (header_of w).kind ≡ 1 → ⊥
  kind-same = rw p.header at kind

  refuses : (n : ℕ) (r : Fed) → n ≡ number → (n ≡ 0 → ⊥) → r ≡ refused_with s n → fed_with r w out ≡ whole
  refuses n r q o r-is =
      rw r-is
      (sym (answers-last p.frame count out done (passes_same p) kind-same n (sym (rw (cut, met-same p, p.header) at q)) o))

  takes-settings : (n : ℕ) (r : Fed) → n ≡ number → n ≡ 0 → (h.kind ≡ 2 → ⊥) → r ≡ accepted_with s h 0 → fed_with r w out ≡ whole
  takes-settings n r q z t r-is =
      rw (r-is, p.header)
      (sym (answers_settings p.frame count out done (passes_same p) kind-same (sym (rw (cut, met-same p, p.header) at q) ∙ z) (rw p.header at t)))

  met-place : m.place ≡ place_at (place_in s (header_of w))
  met-place = ap (λ (k : Met). k.place) (met-same p)

  -- data that rule 27 lets pass has a request, whose slot was found
  there : number ≡ 0 → h.kind ≡ 2 → m.place ≡ Some (place_in s (header_of w))
  unfolding all_rules is_type
  there z k =
      let rule : (eqb h.kind 2 && not (takes_data m.phase)) ≡ false = passed (framed h payload) (viewed m h []) last_rules 27 0 refl z in
      let takes : takes_data m.phase ≡ true = no_not _ (and_no _ _ rule (eq-eqb h.kind 2 k)) in
      let phase-is : m.phase ≡ (get_or s.slots (place_in s (header_of w)) free_slot).phase = ap (λ (k : Met). k.phase) (met-same p) in
      let used : is_phase Free m.phase ≡ false = takes-used m.phase takes in
      let within = inside s.slots (place_in s (header_of w)) (rw phase-is at used) in
      met-place ∙ at-place _ (omega (arith, within, count))

  -- the slot's index
  module _ (i : ℕ) (i-is : m.place ≡ Some i) where
    same : i ≡ place_in s (header_of w)
    same = (at-some _ _ (sym met-place ∙ i-is)).0

    -- by whether its request waits for it
    waits-is : (t : Bool) (x : Slot) → t ≡ in_phase Waiting x → x ≡ get_or s.slots i free_slot → in_phase Waiting (slot_at s (place_in s (header_of w))) ≡ t
    unfolding slot_at
    waits-is t x t-is x-is = ap (λ (k : ℕ). in_phase Waiting (slot_at s k)) (sym same) ∙ ap (in_phase Waiting) (sym x-is) ∙ sym t-is

    takes_data_lem : (n k : ℕ) (x y : Slot) (next : Channel) (waits last : Bool) (third : ℕ) (after : List ℕ) (r : Fed) → n ≡ number → n ≡ 0 → h.kind ≡ 2
        → x ≡ get_or s.slots i free_slot → y ≡ data_slot x (framed h []) → next ≡ with_slot s i y → waits ≡ in_phase Waiting x → waits ≡ true → last ≡ is_last (framed h []) → third ≡ bit last
        → (k ≡ length (new third)) × (after ≡ write out done (new third)) → r ≡ accepted_with next h k → fed_with r w after ≡ whole
    unfolding slot_at
    takes_data_lem n k x y next waits last third after r q z t x-is y-is next-is waits-are so last-is third-is (k-is, after_is) r-is =
        rw (r-is, next-is, y-is, x-is, k-is, after_is, third-is, last-is, cut, same, p.header)
        (sym (answers_data p.frame count out done (passes_same p) kind-same (sym (rw (cut, met-same p, p.header) at q) ∙ z) (rw p.header at t) (waits-is waits x waits-are x-is ∙ so)))

    takes-drain : (n : ℕ) (x y : Slot) (next : Channel) (waits : Bool) (r : Fed) → n ≡ number → n ≡ 0 → h.kind ≡ 2
        → x ≡ get_or s.slots i free_slot → y ≡ data_slot x (framed h []) → next ≡ with_slot s i y → waits ≡ in_phase Waiting x → waits ≡ false → r ≡ accepted_with next h 0 → fed_with r w out ≡ whole
    unfolding slot_at
    takes-drain n x y next waits r q z t x-is y-is next-is waits-are so r-is =
        rw (r-is, next-is, y-is, x-is, same, p.header)
        (sym (answers_drain p.frame count out done (passes_same p) kind-same (sym (rw (cut, met-same p, p.header) at q) ∙ z) (rw p.header at t) (waits-is waits x waits-are x-is ∙ so)))

-- the payload is within the work area
small : (s : Channel) (h : Header) (m : Met) (w : List ℕ) → Passed s h m w → (h.length ≤ max_payload) × (8 + h.length ≤ length w)
unfolding header_of
small s h m w p = let e : h.length ≤ max_payload = omega (arith, ap (λ (h : Header). h.length) p.header, p.frame.short) in (e, omega (arith, e, p.frame.wide))

pub overflow_add-end : goal.overflow_add-end
overflow_add-end c = omega (arith, small _ _ _ _ c.requires.1)

pub slice_bounds-last_number-end : goal.slice_bounds-last_number-end
slice_bounds-last_number-end c = (small _ _ _ _ c.requires.1).1

pub returns-in-Err : goal.returns-in-Err
returns-in-Err c =
    let n-is : number_of c.in-Err.rule ≡ first_broken last_rules _ _ = ap broken_of (sym c.in-Err.is) ∙ c.last_number.ensures in
    refuses c.requires.0 c.requires.1 (eight c.args.self _ c.well_formed.0) _ _ _ _ n-is (number-some c.in-Err.rule) c.refused.ensures

pub returns-then-h-ne2 : goal.returns-then-h-ne2
returns-then-h-ne2 c = takes-settings c.requires.0 c.requires.1 (eight c.args.self _ c.well_formed.0) _ _ _ _ c.last_number.ensures (ok-zero _ c.in_default.not-Err) c.if-h-ne2.true c.accepted.ensures

pub unwrap-place-requires : goal.unwrap-place-requires
unwrap-place-requires c =
    let e = there c.requires.0 c.requires.1 (eight c.args.self _ c.well_formed.0) c.args.out.now c.args.done (sym c.last_number.ensures ∙ ok-zero _ c.in_default.not-Err) c.if-h-ne2.false in
    rw e

pub with_slot-next-requires : goal.with_slot-next-requires
with_slot-next-requires c = c.requires.1.frame.active

pub returns-then-ne : goal.returns-then-ne
returns-then-ne c =
    let e : c.args.m.place ≡ Some c.unwrap-place.result = search rules in
    takes-drain c.requires.0 c.requires.1 (eight c.args.self _ c.well_formed.0) _ _ _ e _ _ _ _ _ _ c.last_number.ensures (ok-zero _ c.in_default.not-Err) c.if-h-ne2.false c.slot_at-x.ensures c.data_slot.ensures c.with_slot-next.ensures
    (same_is Waiting c.slot_at-x.result.phase) (not_no _ (sym c.ne.ensures ∙ c.if-ne.true)) c.accepted-then-ne.ensures

pub returns : goal.returns
returns c =
    let e : c.args.m.place ≡ Some c.unwrap-place.result = search rules in
    takes_data_lem c.requires.0 c.requires.1 (eight c.args.self _ c.well_formed.0) _ _ _ e _ _ _ _ _ _ _ _ _ _ c.last_number.ensures (ok-zero _ c.in_default.not-Err) c.if-h-ne2.false c.slot_at-x.ensures c.data_slot.ensures c.with_slot-next.ensures
    (same_is Waiting c.slot_at-x.result.phase) (no_not _ (sym c.ne.ensures ∙ c.if-ne.false)) c.is_last.ensures c.bit-third.ensures c.put_record-written.ensures c.accepted-2.ensures
