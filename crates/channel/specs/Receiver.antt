-- The plain receiver of document 01: a state and a work area, one byte at a time.
use Rattle.std.specs.Prelude.{ℕ, zero, suc, ◌+◌, ◌/◌, Bool, true, false, cond, ◌&&◌, not, List, [], ◌++◌, length, take, drop, get_or, set, replicate, leb, eqb}
use Rattle.requests.specs.declared.Phase.TheVariants.{Free}
use Rattle.requests.specs.declared.Slot.{Slot}
use Rattle.requests.specs.Slots.{in_phase, first_slot, is_id, used_count, collected, data_slot, finish_slot}
use Rattle.channel.specs.declared.Channel.{Channel}
use Rattle.frame.specs.Limits.{slot_count, stream_count, part_start}
use Rattle.session.specs.Session.{Step, Reply}
use Rattle.requests.specs.Phases.{can_finish, free_slot}
use Rattle.rules.specs.Rules.{View, is_command, overlong, rules, first_broken, record_with}
use Rattle.buffer.specs.Bytes.{write}
use Rattle.frame.specs.Frame.{Frame, frame_of, ends, is_type, is_new}
use Rattle.frame.specs.Header.{length_of}

pub record Receiver : Type 0 where
  pub state : Channel
  pub work : List ℕ

-- ---- the state: a fresh one, and one with a part replaced

-- live, nothing pending, all slots free, all streams closed, no request active
unfoldable pub fresh_state : Channel
fresh_state = record { dead = 0; pending = 0; slots = replicate slot_count free_slot; streams = replicate stream_count false; active = 0 }

abbrev pub with_dead : Channel → ℕ → Channel
with_dead s n = record { dead = n; pending = s.pending; slots = s.slots; streams = s.streams; active = s.active }

abbrev pub with_pending : Channel → ℕ → Channel
with_pending s n = record { dead = s.dead; pending = n; slots = s.slots; streams = s.streams; active = s.active }

abbrev pub with_active : Channel → ℕ → Channel
with_active s n = record { dead = s.dead; pending = s.pending; slots = s.slots; streams = s.streams; active = n }

-- the count of active requests is that of the used slots
abbrev pub with_slots : Channel → List Slot → Channel
with_slots s xs = record { dead = s.dead; pending = s.pending; slots = xs; streams = s.streams; active = used_count xs }

abbrev pub with_streams : Channel → List Bool → Channel
with_streams s bs = record { dead = s.dead; pending = s.pending; slots = s.slots; streams = bs; active = s.active }

abbrev pub with_slot : Channel → ℕ → Slot → Channel
with_slot s i x = with_slots s (set s.slots i x)

-- ---- slots

unfoldable pub slot_at : Channel → ℕ → Slot
slot_at s i = get_or s.slots i free_slot

-- an active id's place and slot; a free slot where the id is not active
unfoldable pub place_of : Channel → ℕ → ℕ
place_of s id = first_slot (is_id id) s.slots

abbrev pub slot_of : Channel → ℕ → Slot
slot_of s id = slot_at s (place_of s id)

unfoldable pub lowest_free : Channel → ℕ
lowest_free s = first_slot (in_phase Free) s.slots

-- ---- a command frame's slot, and what it does to the slot's part of the work area

unfoldable pub target : Channel → Frame → ℕ
target s f = cond (is_new f) (lowest_free s) (place_of s f.request)

-- the command's length with this frame
unfoldable pub command_length : Channel → Frame → ℕ
command_length s f = (slot_at s (target s f)).length + length f.payload

-- the command's bytes with this frame: those that the slot's part holds, then the payload
unfoldable pub command : Channel → Frame → List ℕ → List ℕ
command s f w = take (slot_at s (target s f)).length (drop (part_start (target s f)) w) ++ f.payload

-- the payload is put behind what the slot's part holds
unfoldable pub placed : Channel → Frame → List ℕ → List ℕ
placed s f w = write w (part_start (target s f) + (slot_at s (target s f)).length) f.payload

-- ---- what a frame meets

unfoldable pub stream_open : Channel → Frame → Bool
stream_open s f = get_or s.streams (f.stream / 2) false

unfoldable pub view_of : Channel → Frame → List ℕ → View
view_of s f w = record {
  is_open = stream_open s f;
  phase = (slot_of s f.request).phase;
  databit = (slot_of s f.request).databit;
  full = leb (length s.slots) (lowest_free s);
  size = command_length s f;
  command = command s f w;
}

-- ---- what a frame does

unfoldable pub refused : ℕ → Channel → List ℕ → Step Receiver
refused n s w = record { next = record { state = with_dead (with_pending s 0) n; work = w }; adds = [] }

-- the work area that a refusal leaves
unfoldable pub refused_work : ℕ → Channel → Frame → List ℕ → List ℕ
refused_work n s f w = cond (leb 24 n && leb n 26) (placed s f w) w

unfoldable pub command_slot : Channel → Frame → Slot
command_slot s f = collected f (command_length s f)

unfoldable pub slots_after : Channel → Frame → List Slot
slots_after s f =
    cond (is_command f) (set s.slots (target s f) (command_slot s f))
    (cond (is_type 2 f) (set s.slots (place_of s f.request) (data_slot (slot_of s f.request) f))
    s.slots)

unfoldable pub streams_after : Channel → Frame → List Bool
streams_after s f = set s.streams (f.stream / 2) (not (ends f))

unfoldable pub accepted : Channel → Frame → List ℕ → Step Receiver
accepted s f w = record {
  next = record {
    state = with_streams (with_slots (with_pending s 0) (slots_after s f)) (streams_after s f);
    work = cond (is_command f) (placed s f w) w;
  };
  adds = record_with f (view_of s f w);
}

unfoldable pub judge : Channel → Frame → List ℕ → Step Receiver
judge s f w = elim (first_broken rules f (view_of s f w)) [ zero ↦ accepted s f w | suc n ↦ refused (suc n) s (refused_work (suc n) s f w) ]

-- ---- one byte

-- the byte goes to the place that the pending count names, and the count grows by one
unfoldable pub put : Receiver → ℕ → Receiver
put r b = record { state = with_pending r.state (suc r.state.pending); work = set r.work r.state.pending b }

-- the frame's last byte has been put
unfoldable pub is_whole : Receiver → Bool
is_whole r = eqb r.state.pending (8 + length_of r.work)

unfoldable pub too_long : Receiver → Bool
too_long r = eqb r.state.pending 8 && overlong (length_of r.work)

unfoldable pub counted : Receiver → Step Receiver
counted r =
    elim (too_long r) [
      | true ↦ refused 11 r.state r.work
      | false ↦ elim (is_whole r) [
        | true ↦ judge r.state (frame_of r.work) r.work
        | false ↦ record { next = r; adds = [] }
      ]
    ]

unfoldable pub take_byte : Receiver → ℕ → Step Receiver
take_byte r b = elim r.state.dead [ zero ↦ counted (put r b) | suc n ↦ record { next = r; adds = [] } ]

-- ---- finish

-- an id's slot after a finish that is accepted
unfoldable pub with_finished : Channel → ℕ → Channel
with_finished s id = with_slot s (place_of s id) (finish_slot (slot_of s id))

-- on the state alone: finish has no work area
unfoldable pub finish_state : Channel → ℕ → Reply Channel
finish_state s id =
    elim s.dead [
      | suc n ↦ record { next = s; number = suc n }
      | zero ↦ elim (can_finish (slot_of s id).phase) [ true ↦ record { next = with_finished s id; number = 0 } | false ↦ record { next = s; number = 4 } ]
    ]

unfoldable pub finish : Receiver → ℕ → Reply Receiver
finish r id =
    let a = finish_state r.state id in
    record { next = record { state = a.next; work = r.work }; number = a.number }
