-- A command frame of the message, read between frames: it breaks no rule, so it is accepted, and its slot and its slot's part are as the
-- bytes so far and its payload make them. Assumes nothing.
use Prim.Native.Nat.{ℕ, ◌+◌, ◌/◌, ◌≤◌, ◌<◌}
use mathlib.Core.Path.{◌≡◌, refl, sym, ap, ◌∙◌}
use mathlib.Core.Bool.{Bool, true, false, cond, ◌&&◌, not}
use mathlib.Core.List.{List, [], ◌++◌}
use native.Mathlib.Omega.{arith}
use lib.ListN.{length, take, drop, set, length-append}
use lib.Dec.{eqb}
use borrow.Author.Tests.{le-ltb, ne_eqb}
use Rattle.frame.specs.Limits.{max_payload, max_command, part_start}
use Rattle.frame.specs.Frame.{Frame, begins, ends, is_type, is_new, is_more, data_follows, flags_fit, frame_bytes}
use Rattle.frame.specs.Records.{request_record}
use Rattle.buffer.proofs.WriteLaws.{own-part}
use Rattle.command.specs.Command.{checked, number_of}
use Rattle.requests.specs.declared.Phase.TheVariants.{Free, Collecting, Waiting, Running}
use Rattle.requests.specs.declared.Slot.{Slot}
use Rattle.requests.specs.Phases.{is_phase, code}
use Rattle.rules.specs.Rules.{is_command, check_of, rules, first_broken, command_byte, record_with}
use Rattle.rules.proofs.Bools.{by_cond}
use Rattle.session.specs.Session.{fed, uncut}
use Rattle.channel.specs.declared.Channel.{Channel}
use Rattle.channel.specs.Receiver.{Receiver, lowest_free, target, command_length, command, placed, stream_open, view_of, command_slot, slots_after, streams_after, accepted}
use Rattle.channel.specs.Channel.{channel}
use Rattle.sender.specs.declared.Wishes.{Wishes}
use Rattle.sender.specs.Frames.{command_frame}
use Rattle.round_trip.proofs.FlagLaws.{stream-flags, command-flags}
use Rattle.round_trip.proofs.Unbroken.{Regular, command_unbroken}
use Rattle.round_trip.proofs.WholeFrame.{Between, FrameFits, area_with, same-part, area-wide, next_of, accepted-read, next-between}
use Rattle.round_trip.proofs.States.{slot_in, state_with, alike_next, Sendable, Start, Meets}
use Rattle.round_trip.proofs.ReadsTo.{ReadsTo}

-- 19 and 21 by the phase that is met
new-passes : (first : Bool) → (first && not (is_phase Free (cond first Free Collecting))) ≡ false
unfolding is_phase code
new-passes true = refl
new-passes false = refl

later-passes : (first : Bool) → (not first && not (is_phase Collecting (cond first Free Collecting))) ≡ false
unfolding is_phase code
later-passes true = refl
later-passes false = refl

not-not : (b : Bool) → not (not b) ≡ b
not-not true = refl
not-not false = refl

-- 24 to 26 are judged on the last frame, and the command passes
check_passes : (last : Bool) (m n : ℕ) → (last ≡ true → m ≡ 0) → 0 < n → (last && eqb m n) ≡ false
check_passes false m n h l = refl
check_passes true m n h l = let z : m ≡ 0 = h refl in ne_eqb m n (λ e. none (sym z ∙ e))
  where
    none : 0 ≡ n → ⊥
    none k = omega arith

-- the slot after the last frame of a command, and after one of n bytes so far
abbrev pub slot_after : Wishes → Bool → Bool → ℕ → Slot
slot_after how with-data last n = cond last (slot_in how (cond with-data Waiting Running) with-data 0) (slot_in how Collecting with-data n)

slot-after : (how : Wishes) (with-data last : Bool) (n : ℕ)
    → slot_in how (cond (not last) Collecting (cond with-data Waiting Running)) with-data (cond (not last) n 0) ≡ slot_after how with-data last n
slot-after how with-data true n = refl
slot-after how with-data false n = refl

module _ (how : Wishes) (o : Sendable how) (s : Channel) (y : Start how s) (with-data : Bool)
    (r : Receiver) (b : Between r) (first last : Bool) (bytes payload : List ℕ) (m : Meets how s with-data first bytes r)
    (short : length payload ≤ max_payload) (room : length (bytes ++ payload) ≤ max_command) (good : last ≡ true → number_of (checked (bytes ++ payload)) ≡ 0) where
  abbrev f : Frame
  f = command_frame how with-data first last payload

  abbrev w : List ℕ
  w = area_with r f

  fits : FrameFits f
  fits = record {
    fits = record { length = omega (arith, short); request = o.request; kind = omega arith; flags = (command-flags with-data first last).small };
    short = short;
  }

  is-new : is_new f ≡ first
  unfolding is_new
  is-new = (command-flags with-data first last).new

  is-more : is_more f ≡ not last
  unfolding is_more
  is-more = (command-flags with-data first last).more

  is_data : data_follows f ≡ with-data
  unfolding data_follows
  is_data = (command-flags with-data first last).follows

  the_target : target r.state f ≡ lowest_free s
  the_target = m.place f refl is-new

  the_command : command r.state f w ≡ bytes ++ payload
  unfolding command
  the_command = rw (the_target, m.long, same-part r f b fits (lowest_free s), m.part)

  the_size : command_length r.state f ≡ length (bytes ++ payload)
  unfolding command_length
  the_size = rw (the_target, m.long) (sym (length-append bytes payload))

  regular : Regular f (view_of r.state f w)
  unfolding view_of stream_open begins flags_fit is_type
  regular = record {
    request = o.odd-request;
    stream = o.odd-stream;
    low = (stream-flags (first && how.begin) (last && not with-data && how.end)).low;
    is_open = rw (stream-flags (first && how.begin) (last && not with-data && how.end)).begins m.is_open;
    fit = (command-flags with-data first last).fit;
  }

  unbroken : first_broken rules f (view_of r.state f w) ≡ 0
  unfolding view_of check_of
  unbroken = command_unbroken f (view_of r.state f w) (record {
    type = refl;
    regular = regular;
    inactive = rw (is-new, m.phase) (new-passes first);
    free = rw is-new m.full;
    collects = rw (is-new, m.phase) (later-passes first);
    same_bit = rw (is-new, is_data) m.bit;
    short = rw the_size (le-ltb max_command (length (bytes ++ payload)) room);
    passes = λ n h. rw (is-more, not-not last, the_command) (check_passes last (number_of (checked (bytes ++ payload))) n good h);
  })

  the_record : record_with f (view_of r.state f w) ≡ cond last (request_record 1 how.request (command_byte with-data (bytes ++ payload)) (bytes ++ payload)) []
  unfolding record_with view_of is_command is_type
  the_record = rw (is-more, not-not last, is_data, the_command)

  the_slots : slots_after r.state f ≡ set s.slots (lowest_free s) (slot_after how with-data last (length (bytes ++ payload)))
  unfolding slots_after is_command is_type command_slot
  the_slots = rw (the_target, the_size, is-more, is_data, slot-after how with-data last (length (bytes ++ payload))) (m.slots (slot_after how with-data last (length (bytes ++ payload))))

  the_streams : streams_after r.state f ≡ set s.streams (how.stream / 2) (not (last && not with-data && how.end))
  unfolding streams_after ends
  the_streams = rw (stream-flags (first && how.begin) (last && not with-data && how.end)).ends (m.streams (not (last && not with-data && how.end)))

  the_state : (next_of r f).state ≡ state_with how s (slot_after how with-data last (length (bytes ++ payload))) (not (last && not with-data && how.end))
  unfolding accepted
  the_state = alike_next how s r.state _ _ _ _ y.between m.alike the_slots the_streams

  the_part : take (length (bytes ++ payload)) (drop (part_start (lowest_free s)) (next_of r f).work) ≡ bytes ++ payload
  unfolding accepted is_command is_type placed
  the_part =
      let k : length bytes + length payload ≤ max_command = omega (arith, room, length-append bytes payload) in
      rw (the_target, m.long, length-append bytes payload)
      (own-part w (part_start (lowest_free s)) (length bytes) payload (omega (arith, k, y.free, y.count, area-wide r f b fits))
      ∙ ap (λ (l : List ℕ). take (length bytes) l ++ payload) (same-part r f b fits (lowest_free s))
      ∙ ap (λ (l : List ℕ). l ++ payload) m.part)

  -- what the slot's part then holds: none of a whole command, or the bytes so far
  abbrev pub held : List ℕ
  held = cond last [] (bytes ++ payload)

  the_held : take (length held) (drop (part_start (lowest_free s)) (next_of r f).work) ≡ held
  the_held = by_cond (λ l. take (length l) (drop (part_start (lowest_free s)) (next_of r f).work) ≡ l) last [] (bytes ++ payload) (λ _. refl) (λ _. the_part)

  pub command-reads : ReadsTo how s r (frame_bytes f) (cond last (request_record 1 how.request (command_byte with-data (bytes ++ payload)) (bytes ++ payload)) [])
      (slot_after how with-data last (length (bytes ++ payload))) (not (last && not with-data && how.end)) held
  command-reads = record {
    to = next_of r f;
    reads = λ es. accepted-read r f b fits unbroken es ∙ ap (λ (l : List ℕ). fed l (uncut channel (next_of r f) es)) the_record;
    between = next-between r f b fits;
    state = the_state;
    part = the_held;
  }
