-- E2's round trip, as document 02 states it: a live receiver between frames, with that id inactive, a free slot and the stream closed exactly
-- if beginning is wished, reads what was written as that very command and data. Proved in proofs/RoundTrip.antt.
-- These are definitions: they assume nothing.
use Rattle.std.specs.Prelude.{ℕ, ◌/◌, ◌<◌, ◌≡◌, Bool, false, cond, not, List, [], ◌∷◌, ◌++◌, map, length, get_or, set, take}
use Rattle.frame.specs.Limits.{stream_count}
use Rattle.frame.specs.Frame.{Frame}
use Rattle.frame.specs.Records.{request_record}
use Rattle.requests.specs.declared.Phase.TheVariants.{Running}
use Rattle.requests.specs.Slots.{id_in}
use Rattle.rules.specs.Rules.{command_byte}
use Rattle.session.specs.Session.{Call, took, Outcome, uncut, session, events}
use Rattle.channel.specs.declared.Channel.{Channel}
use Rattle.channel.specs.Receiver.{Receiver, with_streams, with_slot, lowest_free}
use Rattle.channel.specs.Channel.{channel}
use Rattle.demands.specs.Demands.{Sound}
use Rattle.sender.specs.declared.Wishes.{Wishes}
use Rattle.sender.specs.Parts.{command_bytes}
use Rattle.sender.specs.Frames.{data_frames}
use Rattle.buffer.specs.Answers.{Answer}
use Rattle.sender.specs.Send.{send_of}

-- ---- before

-- the numbers fit their fields
pub record Fits (how : Wishes) : Type 0 where
  pub request : how.request < 65536
  pub stream : how.stream < 256

-- a receiver that can take the message, whatever its work area; its state has 128 streams, as its type says
pub record Ready (how : Wishes) (r : Receiver) : Type 0 where
  pub sound : Sound r
  pub streams : length r.state.streams ≡ stream_count
  pub live : r.state.dead ≡ 0
  pub between : r.state.pending ≡ 0
  pub inactive : id_in how.request r.state.slots ≡ false
  pub free : lowest_free r.state < length r.state.slots
  pub stream : get_or r.state.streams (how.stream / 2) false ≡ not how.begin

-- ---- after

-- a data record for each payload: the last and only the last has its bit
unfoldable pub data_records : ℕ → List (List ℕ) → List ℕ
data_records id [] = []
data_records id (p ∷ []) = request_record 2 id 1 p
data_records id (p ∷ q ∷ ps) = request_record 2 id 0 p ++ data_records id (q ∷ ps)

unfoldable pub joined : List (List ℕ) → List ℕ
joined [] = []
joined (p ∷ ps) = p ++ joined ps

abbrev pub payloads : List Frame → List (List ℕ)
payloads fs = map (λ (f : Frame). f.payload) fs

-- the start's state with the lowest free slot now running that id, and the stream open exactly if end is not wished
unfoldable pub running : Wishes → Bool → Channel → Channel
running how with-data s =
    with_streams (with_slot s (lowest_free s) (record { id = how.request; phase = Running; databit = with-data; length = 0 }))
    (set s.streams (how.stream / 2) (not how.end))

-- the command's record with that very command, the data bit and the mark, then those of the data; no answer, no frame refused, nothing pending
pub record Arrives (how : Wishes) (command : List ℕ) (with-data : Bool) (bytes : List ℕ) (s : Channel) (o : Outcome Receiver) : Type 0 where
  pub records : o.records ≡ request_record 1 how.request (command_byte with-data command) command ++ cond with-data (data_records how.request (payloads (data_frames how bytes))) []
  pub joins : joined (payloads (data_frames how bytes)) ≡ bytes
  pub answers : o.answers ≡ []
  pub state : o.end.state ≡ running how with-data s

-- ---- the claims

-- the bytes that a sending call wrote
abbrev pub written_bytes : Answer → List ℕ
written_bytes a = take a.written a.output

-- Every message that is sent with 0 arrives: in the uncut reading of the bytes written, and in every session whose taken bytes are these,
-- however cut.
pub record Arrived (how : Wishes) (command : List ℕ) (with-data : Bool) (bytes : List ℕ) (r : Receiver) (message : List ℕ) : Type 0 where
  pub uncut : Arrives how command with-data bytes r.state (uncut channel r (map took message))
  pub session : (cs : List Call) → events channel r cs ≡ map took message → Arrives how command with-data bytes r.state (session channel r cs)

abbrev pub RoundTrip : Type 0
RoundTrip =
    (how : Wishes) (name pairs : List ℕ) (count : ℕ) (with-data : Bool) (bytes out : List ℕ) (r : Receiver) → Fits how → Ready how r
    → let command = command_bytes name pairs count in let a = send_of how command with-data bytes out in
    a.number ≡ 0 → Arrived how command with-data bytes r (written_bytes a)
