-- A channel's state in bytes: its dead number (1), its pending count (3), eight slots of id (2), phase (1), data bit (1) and length (2), a
-- byte for each of the 128 streams, and its count of active requests (1), 181 in all. Numbers are little-endian, as wide as rule 3 lets them
-- grow; a phase has its code, a bool 1 for true. These are definitions: they assume nothing.
use Rattle.std.specs.Prelude.{ℕ, ◌<◌, ◌^◌, Bool, List, [], ◌∷◌, ◌≡◌, length, get_or}
use Rattle.std.proofs.Math.Option.{Option}
use Rattle.frame.specs.Limits.{slot_count, stream_count}
use Rattle.requests.specs.declared.Phase.{Phase}
use Rattle.requests.specs.declared.Phase.TheVariants.{Free, Collecting, Waiting, Running, Draining}
use Rattle.requests.specs.declared.Slot.{Slot}
use Rattle.requests.specs.Phases.{code}
use Rattle.channel.specs.declared.Channel.{Channel}
use Rattle.channel.specs.Receiver.{fresh_state}
use Rattle.fields.specs.Fields.{Field, number, choice, flag, both, many, standing, is_value, decode as decodeBy, value_from, value_into}
use Rattle.fields.specs.Laws.{AllFit}

-- ---- the fields

-- the phases in the order of their codes
unfoldable pub phase_of : ℕ → Phase
phase_of n = get_or (Free ∷ Collecting ∷ Waiting ∷ Running ∷ Draining ∷ []) n Free

abbrev pub phase_count : ℕ
phase_count = 5

abbrev pub phase : Field Phase
phase = choice phase_count code phase_of

abbrev pub slot : Field Slot
slot =
    standing
    (both (number 2)
    (both phase
    (both flag
    (number 2))))
    (λ x. (x.id, (x.phase, (x.databit, x.length))))
    (λ t. record { id = t.0; phase = t.1.0; databit = t.1.1.0; length = t.1.1.1 })

-- a state's parts, in the order of their bytes
abbrev pub Parts : Type 0
Parts = ℕ × (ℕ × (List Slot × (List Bool × ℕ)))

abbrev pub parts_of : Channel → Parts
parts_of s = (s.dead, (s.pending, (s.slots, (s.streams, s.active))))

abbrev pub of_parts : Parts → Channel
of_parts t = record { dead = t.0; pending = t.1.0; slots = t.1.1.0; streams = t.1.1.1.0; active = t.1.1.1.1 }

abbrev pub channel : Field Channel
channel =
    standing
    (both (number 1)
    (both (number 3)
    (both (many slot slot_count)
    (both (many flag stream_count)
    (number 1)))))
    parts_of
    of_parts

-- ---- numbers that fit their fields

pub record SlotFits (x : Slot) : Type 0 where
  pub id : x.id < 2 ^ 16
  pub length : x.length < 2 ^ 16

pub record StateFits (s : Channel) : Type 0 where
  pub dead : s.dead < 2 ^ 8
  pub pending : s.pending < 2 ^ 24
  pub slot_count : length s.slots ≡ slot_count
  pub slots : AllFit SlotFits s.slots
  pub stream_count : length s.streams ≡ stream_count
  pub active : s.active < 2 ^ 8

-- ---- where the fields stand, and the length of all

abbrev pub pending_at : ℕ
pending_at = 1

abbrev pub slots_at : ℕ
slots_at = 4

abbrev pub streams_at : ℕ
streams_at = 52

abbrev pub active_at : ℕ
active_at = 180

abbrev pub state_length : ℕ
state_length = 181

-- ---- a state to bytes, and bytes to a state

unfoldable pub encode : Channel → List ℕ
encode s = channel.put s

unfoldable pub is_state : List ℕ → Bool
is_state b = is_value channel b

unfoldable pub state_of : List ℕ → Channel
state_of b = channel.get b

unfoldable pub decode : List ℕ → Option Channel
decode b = decodeBy channel b

-- what the code answers for bytes of any length
unfoldable pub state_from : List ℕ → Channel
state_from b = value_from channel fresh_state b

unfoldable pub state_into : List ℕ → Channel → List ℕ
state_into b s = value_into channel b s
