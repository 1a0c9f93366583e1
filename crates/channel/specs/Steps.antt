-- What the private functions under feed answer, by the definitions of the receiver and of reading.
-- These are definitions: they assume nothing.
use Rattle.std.specs.Prelude.{ℕ, ◌+◌, ◌-◌, ◌/◌, ◌≤◌, ◌<◌, min, ◌≡◌, cond, not, List, [], length, take, get_or, set, ltb, eqb}
use Rattle.buffer.specs.Bytes.{write}
use Rattle.frame.specs.declared.Header.{Header}
use Rattle.frame.specs.Limits.{max_payload, longest_record, work_area}
use Rattle.frame.specs.Header.{length_of, header_of}
use Rattle.frame.specs.Frame.{framed, frame_of, ends}
use Rattle.requests.specs.Slots.{used_count}
use Rattle.rules.specs.declared.Met.{Met}
use Rattle.rules.specs.Rules.{first_broken}
use Rattle.rules.specs.Stages.{met_in, viewed, head_rules}
use Rattle.session.specs.Session.{Step, Reading, Feed}
use Rattle.channel.specs.declared.Channel.{Channel}
use Rattle.channel.specs.declared.Fed.{Fed}
use Rattle.channel.specs.declared.feed.Piece.{Piece}
use Rattle.channel.specs.Receiver.{Receiver, with_dead, with_pending, with_streams, stream_open, judge}

abbrev pub receiver : Channel → List ℕ → Receiver
receiver s w = record { state = s; work = w }

-- a reading whose records are put into the output from a place on
abbrev pub put_from : List ℕ → ℕ → Reading Receiver → Feed Receiver
put_from out done g = record { number = g.number; taken = g.taken; written = length g.records; next = g.next; output = write out done g.records }

-- the reading of one byte that 5 does not stop before
abbrev pub stepped : Step Receiver → Reading Receiver
stepped t = record { number = t.next.state.dead; taken = 1; next = t.next; records = t.adds }

-- what the frame of a header meets
abbrev pub met_of : Channel → Header → Met
met_of s h = met_in s.slots (stream_open s (framed h [])) h

-- the count is that of the used slots
abbrev pub CountRight : Channel → Type 0
CountRight s = s.active ≡ used_count s.slots

-- an answer with a state
abbrev pub answer_with : Channel → ℕ → ℕ → ℕ → Fed
answer_with s number taken written = record { number = number; taken = taken; written = written; channel = s }

-- a byte that refuses its frame
abbrev pub refused_with : Channel → ℕ → Fed
refused_with s n = answer_with (with_dead (with_pending s 0) n) n 1 0

-- a byte whose frame is accepted, with the slots as the frame leaves them and the length of its record
abbrev pub accepted_with : Channel → Header → ℕ → Fed
accepted_with s h n = answer_with (with_streams (with_pending s 0) (set s.streams (h.stream / 2) (not (ends (framed h []))))) 0 1 n

-- ---- a whole frame in the work area

-- what the rules make of it, its record put into the output from a place on
abbrev pub judged_into : List ℕ → ℕ → Channel → List ℕ → Feed Receiver
judged_into out done s w = put_from out done (stepped (judge s (frame_of w) w))

-- a live channel whose count is right, and a frame that 11 lets pass
pub record HasFrame (s : Channel) (w : List ℕ) : Type 0 where
  pub wide : work_area ≤ length w
  pub short : length_of w ≤ max_payload
  pub live : s.dead ≡ 0
  pub active : CountRight s

-- and its header, what it meets, and that rules 12 to 23 let it pass
pub record Passed (s : Channel) (h : Header) (m : Met) (w : List ℕ) : Type 0 where
  pub frame : HasFrame s w
  pub header : h ≡ header_of w
  pub met : m ≡ met_of s h
  pub passes : first_broken head_rules (framed h []) (viewed m h []) ≡ 0

-- ---- a piece of the input: the bytes up to the next one that is judged, and that one

-- how many of these bytes can be put before one is judged: up to the eighth of the frame, or up to its last
unfoldable pub quiet_count : ℕ → ℕ → ℕ → ℕ
quiet_count pending size left = cond (ltb pending 8) (min left (7 - pending)) (min left (7 + size - pending))

-- less than eight bytes are pending, or the frame under way is not whole and passed 11
abbrev pub Held : ℕ → List ℕ → Type 0
Held pending w = 8 ≤ pending → (length_of w ≤ max_payload) × (pending < 8 + length_of w)

-- how a piece ends, how many of its bytes are taken, how many bytes are pending after it, and the work area: it ends with 0 where the next
-- piece goes on, with 5 or 11, or with 1 where a whole frame is to be judged
pub record Part : Type 0 where
  pub number : ℕ
  pub taken : ℕ
  pub pending : ℕ
  pub work : List ℕ

abbrev pub part : ℕ → ℕ → ℕ → List ℕ → Part
part number taken pending w = record { number = number; taken = taken; pending = pending; work = w }

abbrev pub part_with : Piece → List ℕ → Part
part_with a w = part a.number a.taken a.pending w

-- a byte that is judged: the last of its frame, or the eighth
unfoldable pub byte_of : ℕ → List ℕ → ℕ → ℕ → Part
byte_of pending w b room =
    cond (eqb (pending - 7) (length_of w))
    (cond (ltb room longest_record) (part 5 0 pending w) (part 1 1 0 (set w pending b)))
    (cond (ltb max_payload (length_of w)) (part 11 1 0 (set w pending b)) (part 0 1 8 (set w pending b)))

-- with so many bytes taken before
abbrev pub later : ℕ → Part → Part
later n p = part p.number (n + p.taken) p.pending p.work

unfoldable pub piece_of : ℕ → List ℕ → List ℕ → ℕ → Part
piece_of pending w rest room =
    let q = quiet_count pending (length_of w) (length rest) in
    let put = write w pending (take q rest) in
    cond (eqb q (length rest)) (part 0 q (pending + q) put) (later q (byte_of (pending + q) put (get_or rest q 0) room))

-- the state at a call's end: a frame refused for its length makes it dead
abbrev pub ended_with : ℕ → Channel → Channel
ended_with number s = with_dead s (cond (eqb number 11) 11 s.dead)
