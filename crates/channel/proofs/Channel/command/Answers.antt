-- `Channel::command` meets its contract: the payload is placed, and then a frame that ends its command has the whole command checked.
-- Assumes nothing.
use Prim.Native.Nat.{ℕ, ◌+◌, ◌-◌, ◌≤◌, ◌<◌}
use mathlib.Core.Path.{◌≡◌, sym, ap, ◌∙◌}
use mathlib.Core.Bool.{Bool, true, false}
use mathlib.Core.List.{List, []}
use Rattle.std.specs.Prelude.{Some}
use native.Mathlib.Omega.{arith}
use lib.ListN.{length, take, drop}
use Rattle.buffer.specs.Bytes.{write}
use Rattle.requests.specs.declared.Slot.{Slot}
use Rattle.frame.specs.declared.Header.{Header}
use Rattle.frame.specs.Limits.{max_command, slot_count, part_start}
use Rattle.frame.specs.Header.{header_of}
use Rattle.frame.specs.Frame.{framed, frame_of, is_more, data_follows}
use Rattle.frame.specs.Records.{request_record}
use Rattle.rules.specs.declared.Met.{Met}
use Rattle.rules.specs.Rules.{check_of, command_byte}
use Rattle.session.specs.Session.{Feed}
use Rattle.channel.specs.declared.Channel.{Channel}
use Rattle.channel.specs.declared.Fed.{Fed}
use Rattle.requests.specs.Slots.{place_at, collected}
use Rattle.requests.proofs.Search.{at-some, at-place}
use Rattle.rules.specs.Stages.{number_of, broken_of}
use Rattle.rules.proofs.RuleLaws.{number-some, ok-zero}
use Rattle.channel.specs.Receiver.{Receiver, with_slot, command}
use Rattle.channel.specs.Channel.{fed_with}
use Rattle.channel.specs.Steps.{judged_into, Passed, refused_with, accepted_with}
use Rattle.channel.proofs.Handed.{eight}
use Rattle.channel.proofs.JudgeLaws.{target_in, met-same, passes_same, has_room, read_back, answers-more, answers-refused, answers-command}
use borrow.Author.Rules.{rules}
use Rattle.channel.proofs.Channel.command.Goals as goal

-- the contract over plain values, with what the caller shows and the number of the slots
module _ {s : Channel} {h : Header} {m : Met} {w : List ℕ} (kind : h.kind ≡ 1) (p : Passed s h m w) (count : length s.slots ≡ slot_count) (out : List ℕ) (done : ℕ) where
  abbrev size : ℕ
  size = m.held + h.length

  abbrev whole : Feed Receiver
  whole = judged_into out done s w

  kind-same : (header_of w).kind ≡ 1
  kind-same = rw p.header at kind

  fits_in : (target_in s (header_of w) < slot_count) × (size ≤ max_command)
  fits_in = rw (met-same p, p.header) (has_room p.frame count out done (passes_same p) kind-same)

  met-target : m.target ≡ place_at (target_in s (header_of w))
  met-target = ap (λ (k : Met). k.target) (met-same p)

  -- the slot was found
  there : m.target ≡ Some (target_in s (header_of w))
  there = met-target ∙ at-place _ fits_in.0

  -- the slot's index
  module _ (t : ℕ) (t-is : m.target ≡ Some t) where
    same : t ≡ target_in s (header_of w)
    same = (at-some _ _ (sym met-target ∙ t-is)).0

    room : (t < slot_count) × (size ≤ max_command)
    room = (rw same (fits_in.0), fits_in.1)

    abbrev start : ℕ
    start = part_start t

    -- the work area and the state as the calls leave them
    module _ (w' : List ℕ) (x : Slot) (next : Channel) (w-is : w' ≡ write w (start + m.held) (take h.length (drop 8 w))) (x-is : x ≡ collected (framed h []) size) (next-is : next ≡ with_slot s t x) where
      abbrev part : List ℕ
      part = take (start + size - start) (drop start w')

      part-is : part ≡ command s (frame_of w) w
      part-is =
          let n : start + size - start ≡ size = omega arith in
          rw (n, w-is, same, met-same p, p.header) (read_back p.frame count out done (passes_same p) kind-same)

      goes_on : (r : Fed) → is_more (framed h []) ≡ true → r ≡ accepted_with next h 0 → fed_with r w' out ≡ whole
      goes_on r q r-is =
          rw (r-is, next-is, x-is, w-is, same, met-same p, p.header)
          (sym (answers-more p.frame count out done (passes_same p) kind-same (rw p.header at q)))

      -- the frame ends its command, and n is the number of its check
      module _ (n : ℕ) (q : is_more (framed h []) ≡ false) (n-is : n ≡ check_of part) where
        stops : (r : Fed) → (n ≡ 0 → ⊥) → r ≡ refused_with s n → fed_with r w' out ≡ whole
        stops r o r-is =
            rw (r-is, w-is, same, met-same p, p.header)
            (sym (answers-refused p.frame count out done (passes_same p) kind-same (rw p.header at q) n (sym (n-is ∙ ap check_of part-is)) o))

        runs : (r : Fed) (b : Bool) (third l : ℕ) (out' : List ℕ) → n ≡ 0 → b ≡ data_follows (framed h []) → third ≡ command_byte b part → let new = request_record 1 h.request third part in
            (l ≡ length new) × (out' ≡ write out done new) → r ≡ accepted_with next h l → fed_with r w' out' ≡ whole
        runs r b third l out' z b-is third-is (l-is, out-is) r-is =
            rw (r-is, next-is, l-is, out-is, third-is, part-is, b-is, x-is, w-is, same, met-same p, p.header)
            (sym (answers-command p.frame count out done (passes_same p) kind-same (rw p.header at q) (sym (n-is ∙ ap check_of part-is) ∙ z)))

-- where the payload goes is within the work area, before and after it is put
module _ {s : Channel} {h : Header} {m : Met} {w : List ℕ} (r : (h.kind ≡ 1) × Passed s h m w) (count : length s.slots ≡ slot_count) (t : ℕ) (t-is : m.target ≡ Some t) where
  fits : (t < slot_count) × (m.held + h.length ≤ max_command)
  fits = room r.0 r.1 count [] 0 t t-is

  inside : (w' : List ℕ) → length w' ≡ length w → part_start t + (m.held + h.length) ≤ length w'
  inside w' e = omega (arith, e, r.1.frame.wide, fits)

pub unwrap-target-requires : goal.unwrap-target-requires
unwrap-target-requires c =
    let e = there c.requires.0 c.requires.1 (eight c.args.self _ c.well_formed.0) [] 0 in
    rw e

pub overflow_add-size : goal.overflow_add-size
overflow_add-size c =
    let e : c.args.m.target ≡ Some c.unwrap-target.result = search rules in
    omega (arith, fits c.requires (eight c.args.self _ c.well_formed.0) _ e)

pub place-requires : goal.place-requires
place-requires c =
    let e : c.args.m.target ≡ Some c.unwrap-target.result = search rules in
    let (b, d) = fits c.requires (eight c.args.self _ c.well_formed.0) _ e in
    (c.requires.1.frame.wide, b, d)

pub with_slot-next-requires : goal.with_slot-next-requires
with_slot-next-requires c = c.requires.1.frame.active

pub returns-then-is_more : goal.returns-then-is_more
returns-then-is_more c =
    let e : c.args.m.target ≡ Some c.unwrap-target.result = search rules in
    goes_on c.requires.0 c.requires.1 (eight c.args.self _ c.well_formed.0) c.args.out.now c.args.done _ e _ _ _ c.place.ensures c.command_slot.ensures c.with_slot-next.ensures
    _ (sym c.is_more.ensures ∙ c.if-is_more.true) c.accepted.ensures

pub overflow_add-stop : goal.overflow_add-stop
overflow_add-stop c =
    let e : c.args.m.target ≡ Some c.unwrap-target.result = search rules in
    omega (arith, fits c.requires (eight c.args.self _ c.well_formed.0) _ e)

pub slice_bounds-command_number-end : goal.slice_bounds-command_number-end
slice_bounds-command_number-end c =
    let e : c.args.m.target ≡ Some c.unwrap-target.result = search rules in
    inside c.requires (eight c.args.self _ c.well_formed.0) _ e c.place.new.work c.place.auto.work

pub returns-in-Err : goal.returns-in-Err
returns-in-Err c =
    let e : c.args.m.target ≡ Some c.unwrap-target.result = search rules in
    let n-is : number_of c.in-Err.rule ≡ check_of _ = ap broken_of (sym c.in-Err.is) ∙ c.command_number.ensures in
    stops c.requires.0 c.requires.1 (eight c.args.self _ c.well_formed.0) c.args.out.now c.args.done _ e _ _ _ c.place.ensures c.command_slot.ensures c.with_slot-next.ensures _
    (sym c.is_more.ensures ∙ c.if-is_more.false) n-is _ (number-some c.in-Err.rule) c.refused.ensures

pub command_byte-third-requires : goal.command_byte-third-requires
command_byte-third-requires c = sym c.command_number.ensures ∙ ok-zero _ c.in_default.not-Err

pub returns : goal.returns
returns c =
    let e : c.args.m.target ≡ Some c.unwrap-target.result = search rules in
    runs c.requires.0 c.requires.1 (eight c.args.self _ c.well_formed.0) c.args.out.now c.args.done _ e _ _ _ c.place.ensures c.command_slot.ensures c.with_slot-next.ensures _
    (sym c.is_more.ensures ∙ c.if-is_more.false) c.command_number.ensures _ _ _ _ _ (ok-zero _ c.in_default.not-Err) c.data_follows.ensures c.command_byte-third.ensures c.put_record-written.ensures c.accepted-2.ensures
