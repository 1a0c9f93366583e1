-- Slots: which phase one is in, the first that passes a test, what rule 3 asks of them, and how many are used.
-- These are definitions: they assume nothing.
use Rattle.std.specs.Prelude.{ℕ, suc, ◌+◌, Bool, true, false, cond, ◌&&◌, ◌||◌, not, List, [], ◌∷◌, leb, ltb, eqb, Option, Some, None}
use Rattle.frame.specs.Limits.{max_command, slot_count}
use Rattle.frame.specs.Frame.{Frame, is_even, is_more, data_follows, is_last}
use Rattle.frame.specs.Records.{bit}
use Rattle.requests.specs.declared.Phase.{Phase}
use Rattle.requests.specs.declared.Phase.TheVariants.{Free, Collecting, Waiting, Running, Draining}
use Rattle.requests.specs.declared.Slot.{Slot}
use Rattle.requests.specs.Phases.{is_phase, free_slot}

abbrev pub in_phase : Phase → Slot → Bool
in_phase p x = is_phase p x.phase

-- the place of the first slot that passes the test; the number of slots where none does
unfoldable pub first_slot : (Slot → Bool) → List Slot → ℕ
first_slot test [] = 0
first_slot test (x ∷ xs) = cond (test x) 0 (suc (first_slot test xs))

-- a place among the slots; none where it is their number
abbrev pub place_at : ℕ → Option ℕ
place_at n = cond (ltb n slot_count) (Some n) None

-- a used slot of that id
unfoldable pub is_id : ℕ → Slot → Bool
is_id id x = not (in_phase Free x) && eqb x.id id

-- what a slot of each phase holds
unfoldable pub slot_fits : Slot → Bool
slot_fits x =
    elim x.phase [
      | Free ↦ eqb x.id 0 && not x.databit && eqb x.length 0
      | Collecting ↦ not (is_even x.id) && leb x.length max_command
      | Waiting ↦ not (is_even x.id) && x.databit && eqb x.length 0
      | Running ↦ not (is_even x.id) && eqb x.length 0
      | Draining ↦ not (is_even x.id) && x.databit && eqb x.length 0
    ]

unfoldable pub id_in : ℕ → List Slot → Bool
id_in id [] = false
id_in id (x ∷ xs) = is_id id x || id_in id xs

-- no used slot behind it has its id
unfoldable pub apart : Slot → List Slot → Bool
apart x xs = in_phase Free x || not (id_in x.id xs)

unfoldable pub slots_fit : List Slot → Bool
slots_fit [] = true
slots_fit (x ∷ xs) = slot_fits x && apart x xs && slots_fit xs

-- how many slots are used: the number of active requests
unfoldable pub used_bit : Slot → ℕ
used_bit x = bit (not (in_phase Free x))

unfoldable pub used_count : List Slot → ℕ
used_count [] = 0
used_count (x ∷ xs) = used_bit x + used_count xs

-- ---- what frames and a finish do to a slot

-- the slot of a command frame's request, with the command's length
abbrev pub collected : Frame → ℕ → Slot
collected f n = record {
  id = f.request;
  phase = cond (is_more f) Collecting (cond (data_follows f) Waiting Running);
  databit = data_follows f;
  length = cond (is_more f) n 0;
}

unfoldable pub enter : Phase → Slot → Slot
enter p x = record { id = x.id; phase = p; databit = x.databit; length = x.length }

-- the last data frame frees the slot of a request that drains, and makes one that waits run
unfoldable pub data_slot : Slot → Frame → Slot
data_slot x f = cond (is_last f) (cond (in_phase Draining x) free_slot (enter Running x)) x

-- a finish that is accepted lets a request that waits drain, and frees the slot of one that runs
unfoldable pub finish_slot : Slot → Slot
finish_slot x = cond (in_phase Waiting x) (enter Draining x) free_slot
