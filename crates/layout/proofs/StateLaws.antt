-- A state that fits its fields comes back from its bytes, and bytes are decoded only if they are an encoding. Assumes nothing.
use Prim.Native.Nat.{ℕ, zero, suc, ◌<◌}
use mathlib.Core.Bool.{true, false}
use mathlib.Core.List.{List, [], ◌∷◌}
use mathlib.Core.Option.{some, none}
use mathlib.Core.Path.{◌≡◌, refl}
use native.Mathlib.Omega.{arith}
use lib.ListN.{length}
use Rattle.frame.specs.Limits.{slot_count, stream_count}
use Rattle.requests.specs.declared.Phase.{Phase}
use Rattle.requests.specs.declared.Phase.TheVariants.{Free, Collecting, Waiting, Running, Draining}
use Rattle.requests.specs.declared.Slot.{Slot}
use Rattle.requests.specs.Phases.{code}
use Rattle.channel.specs.declared.Channel.{Channel}
use Rattle.channel.specs.Receiver.{fresh_state}
use Rattle.fields.specs.Laws.{AllFit, Lawful}
use Rattle.fields.proofs.FieldLaws.{InBytes, Any, all_any, number_lawful, choice_lawful, flag_lawful, both_lawful, many_lawful, standing_lawful, value-length, value_none, value_read, value-put, back as value-back, only as value-only}
use Rattle.layout.specs.State.{phase_of, phase_count, slot, parts_of, of_parts, channel, SlotFits, StateFits, state_length, encode, decode, is_state, state_from, state_into}
use Rattle.layout.specs.Laws.{Back, Only}

-- ---- each field has its laws

phase-below : (p : Phase) → code p < phase_count
unfolding code
phase-below Free = omega arith
phase-below Collecting = omega arith
phase-below Waiting = omega arith
phase-below Running = omega arith
phase-below Draining = omega arith

phase-back : (p : Phase) → phase_of (code p) ≡ p
unfolding code phase_of
phase-back Free = refl
phase-back Collecting = refl
phase-back Waiting = refl
phase-back Running = refl
phase-back Draining = refl

phase-only : (n : ℕ) → n < phase_count → code (phase_of n) ≡ n
unfolding code phase_of
phase-only zero h = refl
phase-only (suc zero) h = refl
phase-only (suc (suc zero)) h = refl
phase-only (suc (suc (suc zero))) h = refl
phase-only (suc (suc (suc (suc zero)))) h = refl
phase-only (suc (suc (suc (suc (suc n))))) h = absurd (none' h)
  where
    none' : suc (suc (suc (suc (suc n)))) < 5 → ⊥
    none' k = omega arith

abbrev SlotIn : Slot → Type 0
SlotIn x = InBytes 2 x.id × (Any x.phase × (Any x.databit × InBytes 2 x.length))

slot_lawful : Lawful slot SlotIn
slot_lawful =
    standing_lawful
    (both_lawful (number_lawful 2)
    (both_lawful (choice_lawful phase_count code phase_of (record { below = λ p h. phase-below p; back = λ p h. phase-back p; only = phase-only }))
    (both_lawful flag_lawful
    (number_lawful 2))))
    (λ x. (x.id, (x.phase, (x.databit, x.length))))
    (λ t. record { id = t.0; phase = t.1.0; databit = t.1.1.0; length = t.1.1.1 })
    (λ x. refl)
    (λ t. refl)

abbrev StateIn : Channel → Type 0
StateIn s =
    InBytes 1 s.dead
    × (InBytes 3 s.pending
    × (((length s.slots ≡ slot_count) × AllFit SlotIn s.slots)
    × (((length s.streams ≡ stream_count) × AllFit Any s.streams)
    × InBytes 1 s.active)))

pub channel_lawful : Lawful channel StateIn
channel_lawful =
    standing_lawful
    (both_lawful (number_lawful 1)
    (both_lawful (number_lawful 3)
    (both_lawful (many_lawful slot_lawful slot_count)
    (both_lawful (many_lawful flag_lawful stream_count)
    (number_lawful 1)))))
    parts_of
    of_parts
    (λ s. refl)
    (λ t. refl)

-- ---- numbers that fit are what the fields ask

all_slots : (l : List Slot) → AllFit SlotFits l → AllFit SlotIn l
all_slots [] h = tt
all_slots (x ∷ xs) h = ((h.0.id, (tt, (tt, h.0.length))), all_slots xs h.1)

state_in : (s : Channel) → StateFits s → StateIn s
state_in s h = (h.dead, (h.pending, ((h.slot_count, all_slots s.slots h.slots), ((h.stream_count, all_any s.streams), h.active))))

-- ---- which bytes are decoded, and the two laws of the state's bytes

pub state-length : (b : List ℕ) → is_state b ≡ true → length b ≡ state_length
unfolding is_state
state-length = value-length channel

pub state-read : (b : List ℕ) (s : Channel) → is_state b ≡ true → s ≡ state_from b → decode b ≡ some s
unfolding is_state state_from decode
state-read = value_read channel fresh_state

pub state-put : (b b' : List ℕ) (s : Channel) → length b ≡ state_length → b' ≡ state_into b s → b' ≡ encode s
unfolding state_into encode
state-put = value-put channel

pub state-none : (b : List ℕ) → is_state b ≡ false → decode b ≡ none
unfolding is_state decode
state-none = value_none channel

pub back : Back
unfolding decode encode
back s h = value-back channel_lawful s (state_in s h)

pub only : Only
unfolding decode encode
only = value-only channel_lawful
