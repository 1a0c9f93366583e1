-- The rules as the code tries them: those before the payload is put in a slot's part, the check of a command, and the rest.
-- These are definitions: they assume nothing.
use Rattle.std.specs.Prelude.{ℕ, zero, suc, ◌+◌, ◌≡◌, Bool, true, cond, List, [], ◌∷◌, length, take, drop, get_or, leb, Option, Some, None, Result, Ok, Err}
use Rattle.frame.specs.declared.Header.{Header}
use Rattle.frame.specs.Frame.{Frame, framed, is_new, is_more}
use Rattle.requests.specs.declared.Phase.TheVariants.{Free}
use Rattle.requests.specs.declared.Slot.{Slot}
use Rattle.rules.specs.declared.Rule as code
use Rattle.rules.specs.declared.Rule.TheVariants.{LongPayload, EvenRequest, EvenStream, HighStreamFlag, OtherType, ClosedStream, OpenStream, BrokenFlags, ActiveRequest, NoFreeSlot, NotCollecting, OtherDataBit, LongCommand, NotItem, NotCommand, DoubleKey, NoDataTaken, SettingsNotFirst, NotIdentity}
use Rattle.requests.specs.Phases.{free_slot}
use Rattle.requests.specs.Slots.{in_phase, place_at, first_slot, is_id}
use Rattle.rules.specs.declared.Met.{Met}
use Rattle.rules.specs.Rules.{View, Rule, is_command, check_of, rules, first_broken}

-- the number of a rule that is broken
abbrev pub number_of : code.Rule → ℕ
number_of LongPayload = 11
number_of EvenRequest = 12
number_of EvenStream = 13
number_of HighStreamFlag = 14
number_of OtherType = 15
number_of ClosedStream = 16
number_of OpenStream = 17
number_of BrokenFlags = 18
number_of ActiveRequest = 19
number_of NoFreeSlot = 20
number_of NotCollecting = 21
number_of OtherDataBit = 22
number_of LongCommand = 23
number_of NotItem = 24
number_of NotCommand = 25
number_of DoubleKey = 26
number_of NoDataTaken = 27
number_of SettingsNotFirst = 28
number_of NotIdentity = 29

-- and of an answer, 0 where no rule is broken
abbrev pub broken_of : Result Unit code.Rule → ℕ
broken_of (Ok u) = 0
broken_of (Err r) = number_of r

-- the first rule of a table that is broken
unfoldable pub first_of : List (Bool × code.Rule) → Result Unit code.Rule
first_of [] = Ok tt
first_of (x ∷ xs) = cond x.0 (Err x.1) (first_of xs)

-- the slot at the place that was found, a free one where none was
abbrev pub found_in : List Slot → Option ℕ → Slot
found_in slots (Some i) = get_or slots i free_slot
found_in slots None = free_slot

-- what the frame of a header meets among the slots; a command's slot is the lowest free one if the command is new, else its request's
abbrev pub met_in : List Slot → Bool → Header → Met
met_in slots is_open h =
    let place = first_slot (is_id h.request) slots in
    let lowest = first_slot (in_phase Free) slots in
    let target = cond (is_new (framed h [])) lowest place in
    record {
      is_open = is_open;
      place = place_at place;
      phase = (get_or slots place free_slot).phase;
      databit = (get_or slots place free_slot).databit;
      full = leb (length slots) lowest;
      target = place_at target;
      held = (get_or slots target free_slot).length;
    }

-- what a frame meets, with the command's bytes
abbrev pub viewed : Met → Header → List ℕ → View
viewed m h command = record {
  is_open = m.is_open;
  phase = m.phase;
  databit = m.databit;
  full = m.full;
  size = m.held + h.length;
  command = command;
}

-- rules 12 to 23, and 27 to 29
abbrev pub head_rules : List Rule
head_rules = take 12 rules

abbrev pub last_rules : List Rule
last_rules = drop 15 rules

-- a rule tried after others: the number of the first broken one so far
unfoldable pub tried : ℕ → Bool → ℕ → ℕ
tried zero broken number = cond broken number 0
tried (suc n) broken number = suc n

-- the whole table by its parts: rules 12 to 23, then the check of a command that is whole, or 27 to 29 of a frame that is no command
abbrev pub StagesHold : Type 0
StagesHold =
    (f : Frame) (v : View) → first_broken rules f v
    ≡ tried (first_broken head_rules f v) true (cond (is_command f) (cond (is_more f) 0 (check_of v.command)) (first_broken last_rules f v))
