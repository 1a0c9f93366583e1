-- What is claimed of the channel: a reader starts here. Demand 3 and the claims below it are proved in proofs/Demand3.antt, what is
-- written in proofs/Written.antt, demand 2 and the count in proofs/Demand2.antt, what a finish before the end does in proofs/Drain.antt, what a
-- refusal leaves in proofs/Refusal.antt, each claim under its name. These are definitions: they assume nothing.
use Rattle.std.specs.Prelude.{ℕ, ◌+◌, ◌≤◌, ◌<◌, ◌≡◌, Bool, true, false, cond, ◌&&◌, ◌||◌, List, [], ◌∷◌, ◌++◌, length, get_or, drop, leb, eqb}
use Rattle.buffer.specs.Bytes.{write}
use Rattle.frame.specs.Limits.{max_command, slot_count, longest_record, work_area, part_start}
use Rattle.frame.specs.Frame.{Frame, frame_of, is_type, is_new, is_last}
use Rattle.requests.specs.declared.Phase.TheVariants.{Free, Waiting, Draining}
use Rattle.requests.specs.Slots.{in_phase, used_count}
use Rattle.session.specs.Session.{Step, Reply, Call, feeds, owns, Event, Outcome, own, uncut, session, events}
use Rattle.session.specs.Demand3.{Whole}
use Rattle.rules.specs.Rules.{is_command}
use Rattle.channel.specs.Receiver.{Receiver, fresh_state, slot_at, slot_of, place_of, lowest_free, target, command_length, placed, put, is_whole, take_byte}
use Rattle.channel.specs.Channel.{shape, channel, finish_of}
use Rattle.demands.specs.History.{Past, nothing, told, Sent, is_all, refusal_of, given, IsCount}

-- ---- demand 3

-- neither 2 nor 3 applies; the state has its eight slots, as its type says
pub record Sound (r : Receiver) : Type 0 where
  pub roomy : leb work_area (length r.work) ≡ true
  pub slots : length r.state.slots ≡ slot_count
  pub shaped : shape r ≡ true

-- From any sound receiver, a dead one too, and for every list of calls: it comes to what the plain receiver comes to on the bytes taken and
-- the finishes at their places, with the same state, every byte of the work area, the joined records and the answers; and each call, at its
-- place, answers and leaves what document 01 defines.
abbrev pub Demand3 : Type 0
Demand3 = (r : Receiver) → Sound r → (cs : List Call) → Whole channel r cs

-- 2 and 3 do not arise later: not in the uncut reading, and so not in a session, which comes to the same receiver
abbrev pub StaysSound : Type 0
StaysSound = (r : Receiver) → Sound r → (es : List Event) → Sound (uncut channel r es).end

-- and after every session the count of active requests is the number of used slots
abbrev pub CountsUsed : Type 0
CountsUsed = (r : Receiver) → Sound r → (cs : List Call) → let s = (session channel r cs).end.state in s.active ≡ used_count s.slots

-- The session's call of the owner is what `Channel::finish` promises of the state; it leaves every byte of the work area, the freed part's too.
abbrev pub OwnFinish : Type 0
OwnFinish =
    (r : Receiver) (id : ℕ)
    → own channel r id ≡ record { next = record { state = (finish_of r.state id).next; work = r.work }; number = (finish_of r.state id).number }

-- no record is longer than the longest
abbrev pub RecordsFit : Type 0
RecordsFit = (r : Receiver) → Sound r → (b : ℕ) → length (take_byte r b).adds ≤ longest_record

-- ---- what is written

-- the frame under way with a byte, and where its payload goes in its slot's part: behind the bytes that the part holds
abbrev pub frame_with : Receiver → ℕ → Frame
frame_with r b = frame_of (put r b).work

abbrev pub payload_at : Receiver → ℕ → ℕ
payload_at r b = let k = target r.state (frame_with r b) in part_start k + (slot_at r.state k).length

-- the byte completes a command frame that is accepted, or refused with 24, 25 or 26
unfoldable pub fills : Receiver → ℕ → Bool
fills r b = let n = (take_byte r b).next.state.dead in is_whole (put r b) && is_command (frame_with r b) && (eqb n 0 || leb 24 n && leb n 26)

-- A live receiver after a byte: the byte is in the place that the pending count names; where it fills, the frame's payload is in its slot's
-- part, in which it has room; every other byte of the work area is as it was.
pub record Written (r : Receiver) (b : ℕ) (q : Receiver) : Type 0 where
  pub work : q.work ≡ cond (fills r b) (placed r.state (frame_with r b) (put r b).work) (put r b).work
  pub inside : fills r b ≡ true → (target r.state (frame_with r b) < slot_count) × (command_length r.state (frame_with r b) ≤ max_command)
  pub elsewhere : (i : ℕ) → (i ≡ r.state.pending → ⊥) → (fills r b ≡ true → payload_at r b ≤ i → i < payload_at r b + length (frame_with r b).payload → ⊥)
      → get_or q.work i 0 ≡ get_or r.work i 0

abbrev pub ByteWrites : Type 0
ByteWrites = (r : Receiver) → Sound r → r.state.dead ≡ 0 → (b : ℕ) → Written r b (take_byte r b).next

-- in no session does a byte past the 81,927 change, or the work area's length
abbrev pub PastKept : Type 0
PastKept =
    (r : Receiver) → Sound r → (cs : List Call) → let q = (session channel r cs).end in
    (drop work_area q.work ≡ drop work_area r.work) × (length q.work ≡ length r.work)

-- ---- demand 2

-- the fresh state on a work area
abbrev pub fresh_on : List ℕ → Receiver
fresh_on w = record { state = fresh_state; work = w }

-- a reading by the receiver and one by the history alone: the same number, joined records and answers
pub record Agree (o : Outcome Receiver) (u : Outcome Past) : Type 0 where
  pub number : o.end.state.dead ≡ u.end.number
  pub records : o.records ≡ u.records
  pub answers : o.answers ≡ u.answers

-- the bytes fed are bytes
pub data Fed : List Call → Type 0 where
  nil : Fed []
  bytes : {input out : List ℕ} {cs : List Call} → ((i : ℕ) → get_or input i 0 < 256) → Fed cs → Fed (feeds input out ∷ cs)
  ends : {id : ℕ} {cs : List Call} → Fed cs → Fed (owns id ∷ cs)

-- From the fresh state and any work area that is long enough, for every list of bytes and finishes: the number, the joined records and the
-- answers are those of the history alone.
abbrev pub Demand2 : Type 0
Demand2 = (w : List ℕ) → work_area ≤ length w → (es : List Event) → Sent es → Agree (uncut channel (fresh_on w) es) (told nothing es)

-- so are those of every session of feeds and finishes
abbrev pub Demand2Session : Type 0
Demand2Session = (w : List ℕ) → work_area ≤ length w → (cs : List Call) → Fed cs → Agree (session channel (fresh_on w) cs) (told nothing (events channel (fresh_on w) cs))

-- And at each place: where no frame is refused so far and the byte completes one, the frame is accepted exactly if the history allows it,
-- is else refused with the number of the first rule that it breaks, and gives the record that the history defines.
abbrev pub NextFrame : Type 0
NextFrame =
    (w : List ℕ) → work_area ≤ length w → (es : List Event) → Sent es → (b : ℕ) → b < 256
    → (told nothing es).end.number ≡ 0 → is_all ((told nothing es).end.under ++ b ∷ []) ≡ true
    → ((take_byte (uncut channel (fresh_on w) es).end b).next.state.dead ≡ refusal_of (told nothing es).end.deeds (frame_of ((told nothing es).end.under ++ b ∷ [])))
    × ((take_byte (uncut channel (fresh_on w) es).end b).adds ≡ given (told nothing es).end.deeds (frame_of ((told nothing es).end.under ++ b ∷ [])))

-- ---- the count of active requests

-- From the fresh state, after every session, one that refused a frame too: the count in the state is the new frames accepted minus the finishes
-- of running ids and the drains ended. A session's first calls are a session, so this holds after each of its calls.
abbrev pub ActiveCount : Type 0
ActiveCount =
    (w : List ℕ) → work_area ≤ length w → (cs : List Call) → Fed cs → let h = (told nothing (events channel (fresh_on w) cs)).end.deeds in
    IsCount (session channel (fresh_on w) cs).end.state.active h

-- ---- answering early

-- The answer to the finish of an id that waits for data: the id drains, and is as active as before; no byte of the work area changes.
pub record Drains (r : Receiver) (id : ℕ) (a : Reply Receiver) : Type 0 where
  pub number : a.number ≡ 0
  pub phase : in_phase Draining (slot_of a.next.state id) ≡ true
  pub active : a.next.state.active ≡ r.state.active
  pub work : a.next.work ≡ r.work

abbrev pub EarlyFinish : Type 0
EarlyFinish = (r : Receiver) → Sound r → r.state.dead ≡ 0 → (id : ℕ) → in_phase Waiting (slot_of r.state id) ≡ true → Drains r id (own channel r id)

-- A byte that completes a data frame of an id that drains, and the frame is accepted: no record. After the last frame the id is not active and
-- one request less is; after any other the id still drains.
pub record Drained (r : Receiver) (f : Frame) (t : Step Receiver) : Type 0 where
  pub records : t.adds ≡ []
  pub last : is_last f ≡ true → (in_phase Free (slot_of t.next.state f.request) ≡ true) × (t.next.state.active + 1 ≡ r.state.active)
  pub more : is_last f ≡ false → (in_phase Draining (slot_of t.next.state f.request) ≡ true) × (t.next.state.active ≡ r.state.active)

abbrev pub DrainedFrame : Type 0
DrainedFrame =
    (r : Receiver) → Sound r → r.state.dead ≡ 0 → (b : ℕ) → is_whole (put r b) ≡ true → is_type 2 (frame_with r b) ≡ true
    → in_phase Draining (slot_of r.state (frame_with r b).request) ≡ true → (take_byte r b).next.state.dead ≡ 0 → Drained r (frame_with r b) (take_byte r b)

-- ---- what a refusal leaves

-- The receiver after a byte that refuses its frame with a number: slots, count and streams as before the frame, nothing pending. The work area has
-- the byte in its place; with 24, 25 or 26 it has the payload too, a new command's at the start of the lowest free slot's part, a further
-- one's behind the bytes that its slot's part holds.
pub record Refused (r : Receiver) (b n : ℕ) (q : Receiver) : Type 0 where
  pub slots : q.state.slots ≡ r.state.slots
  pub active : q.state.active ≡ r.state.active
  pub streams : q.state.streams ≡ r.state.streams
  pub pending : q.state.pending ≡ 0
  pub work : (24 ≤ n → n ≤ 26 → ⊥) → q.work ≡ (put r b).work
  pub first : 24 ≤ n → n ≤ 26 → is_new (frame_with r b) ≡ true
      → q.work ≡ write (put r b).work (part_start (lowest_free r.state)) (frame_with r b).payload
  pub further : 24 ≤ n → n ≤ 26 → is_new (frame_with r b) ≡ false
      → q.work ≡ write (put r b).work (part_start (place_of r.state (frame_with r b).request) + (slot_of r.state (frame_with r b).request).length) (frame_with r b).payload

abbrev pub AfterRefusal : Type 0
AfterRefusal =
    (r : Receiver) → Sound r → r.state.dead ≡ 0 → (b n : ℕ) → (take_byte r b).next.state.dead ≡ n → (n ≡ 0 → ⊥)
    → Refused r b n (take_byte r b).next × ((take_byte r b).adds ≡ [])
