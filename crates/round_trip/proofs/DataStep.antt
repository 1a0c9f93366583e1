-- A data frame of the message, read between frames by a receiver whose request waits for it: it breaks no rule, so it is accepted, and
-- the last makes the request running. Assumes nothing.
use Prim.Native.Nat.{ℕ, ◌/◌, ◌≤◌}
use mathlib.Core.Path.{◌≡◌, refl, ap, ◌∙◌}
use mathlib.Core.Bool.{Bool, true, false, cond, ◌&&◌, not}
use mathlib.Core.List.{List, []}
use native.Mathlib.Omega.{arith}
use lib.ListN.{length, set}
use Rattle.frame.specs.Limits.{max_payload}
use Rattle.frame.specs.Frame.{Frame, begins, ends, is_type, is_last, flags_fit, frame_bytes}
use Rattle.frame.specs.Records.{bit, request_record}
use Rattle.requests.specs.declared.Phase.TheVariants.{Free, Waiting, Running, Draining}
use Rattle.requests.specs.declared.Slot.{Slot}
use Rattle.requests.specs.Phases.{free_slot, is_phase, code}
use Rattle.requests.specs.Slots.{enter, data_slot}
use Rattle.rules.specs.Rules.{is_command, rules, first_broken, record_with}
use Rattle.session.specs.Session.{fed, uncut}
use Rattle.channel.specs.declared.Channel.{Channel}
use Rattle.channel.specs.Receiver.{Receiver, place_of, slot_of, lowest_free, stream_open, view_of, slots_after, streams_after, accepted}
use Rattle.channel.specs.Channel.{channel}
use Rattle.sender.specs.declared.Wishes.{Wishes}
use Rattle.sender.specs.Frames.{data_frame}
use Rattle.round_trip.proofs.FlagLaws.{stream-flags, data_flags_lem}
use Rattle.round_trip.proofs.Unbroken.{Regular, data_unbroken}
use Rattle.round_trip.proofs.WholeFrame.{Between, FrameFits, area_with, next_of, accepted-read, next-between}
use Rattle.round_trip.proofs.States as st
use Rattle.round_trip.proofs.States.{slot_in, state_with, alike_next, Sendable, Start}
use Rattle.round_trip.proofs.ReadsTo.{ReadsTo}

-- the slot after a data frame
abbrev pub slot_after_data : Wishes → Bool → Slot
slot_after_data how last = slot_in how (cond last Running Waiting) true 0

used : is_phase Free Waiting ≡ false
unfolding is_phase code
used = refl

module _ (how : Wishes) (o : Sendable how) (s : Channel) (y : Start how s) (r : Receiver) (b : Between r) (first last : Bool) (payload : List ℕ)
    (waits : r.state ≡ state_with how s (slot_in how Waiting true 0) true) (short : length payload ≤ max_payload) where
  abbrev f : Frame
  f = data_frame how first last payload

  abbrev w : List ℕ
  w = area_with r f

  fits : FrameFits f
  fits = record {
    fits = record { length = omega (arith, short); request = o.request; kind = omega arith; flags = (data_flags_lem last).small };
    short = short;
  }

  is-last : is_last f ≡ last
  unfolding is_last
  is-last = (data_flags_lem last).is_last

  slot_is : slot_of r.state how.request ≡ slot_in how Waiting true 0
  slot_is = st.slot_is how o s y r Waiting true 0 used true waits

  place_is : place_of r.state how.request ≡ lowest_free s
  place_is = st.place_is how o s y r Waiting true 0 used true waits

  regular : Regular f (view_of r.state f w)
  unfolding view_of stream_open begins flags_fit is_type
  regular = record {
    request = o.odd-request;
    stream = o.odd-stream;
    low = (stream-flags false (last && how.end)).low;
    is_open = rw (stream-flags false (last && how.end)).begins (st.stream-is how o s y r Waiting true 0 used true waits);
    fit = (data_flags_lem last).fit;
  }

  unbroken : first_broken rules f (view_of r.state f w) ≡ 0
  unfolding view_of is_phase code
  unbroken = data_unbroken f (view_of r.state f w) refl regular (rw slot_is)

  the_record : record_with f (view_of r.state f w) ≡ request_record 2 how.request (bit last) payload
  unfolding record_with view_of is_command is_type is_phase code
  the_record = rw (is-last, slot_is)

  data_slot_lem : (t : Bool) → cond t (cond (is_phase Draining Waiting) free_slot (enter Running (slot_in how Waiting true 0))) (slot_in how Waiting true 0) ≡ slot_after_data how t
  unfolding enter is_phase code
  data_slot_lem true = refl
  data_slot_lem false = refl

  the_slots : slots_after r.state f ≡ set s.slots (lowest_free s) (slot_after_data how last)
  unfolding slots_after is_command is_type data_slot
  the_slots = rw (slot_is, place_is, is-last, data_slot_lem last) (st.slots_set how o s y r Waiting true 0 used true waits (slot_after_data how last))

  the_streams : streams_after r.state f ≡ set s.streams (how.stream / 2) (not (last && how.end))
  unfolding streams_after ends
  the_streams = rw (stream-flags false (last && how.end)).ends (st.streams-set how o s y r Waiting true 0 used true waits (not (last && how.end)))

  the_state : (next_of r f).state ≡ state_with how s (slot_after_data how last) (not (last && how.end))
  unfolding accepted
  the_state = alike_next how s r.state _ _ _ _ y.between (st.alike how o s y r Waiting true 0 used true waits) the_slots the_streams

  pub data_reads : ReadsTo how s r (frame_bytes f) (request_record 2 how.request (bit last) payload) (slot_after_data how last) (not (last && how.end)) []
  data_reads = record {
    to = next_of r f;
    reads = λ es. accepted-read r f b fits unbroken es ∙ ap (λ (l : List ℕ). fed l (uncut channel (next_of r f) es)) the_record;
    between = next-between r f b fits;
    state = the_state;
    part = refl;
  }
