-- E6: the count of active requests, and the row for a screen: what a call answers, and what a lent row holds after it.
-- These are definitions: they assume nothing.
use Rattle.std.specs.Prelude.{ℕ, ◌/◌, cond, List, ◌++◌, map, length, drop, ltb, eqb, Result, Ok, Err}
use Rattle.buffer.specs.Bytes.{write}
use Rattle.fields.specs.Fields.{Field, number, both, standing, put_all}
use Rattle.frame.specs.Limits.{slot_count}
use Rattle.requests.specs.declared.Slot.{Slot}
use Rattle.channel.specs.declared.Channel.{Channel}
use Rattle.channel.specs.Channel.{plain_shape}
use Rattle.layout.specs.State.{phase}
use Rattle.status.specs.declared.Refusal.{Refusal}
use Rattle.status.specs.declared.Refusal.TheVariants.{NotInShape, ShortRow}
use Rattle.status.specs.declared.Entry.{Entry}

-- the number of a refusal
abbrev pub refusal_of : Refusal → ℕ
refusal_of NotInShape = 3
refusal_of ShortRow = 9

-- ---- the count

-- a number, and how many requests are active: 0 if refused
pub record ActiveCount : Type 0 where
  pub number : ℕ
  pub count : ℕ

abbrev pub active_count : ℕ → ℕ → ActiveCount
active_count n count = record { number = n; count = count }

abbrev pub counted : Result ℕ Refusal → ActiveCount
counted (Ok n) = active_count 0 n
counted (Err r) = active_count (refusal_of r) 0

-- 3 for a state that fails finish's shape check
unfoldable pub active_of : Channel → ActiveCount
active_of c = cond (plain_shape c) (active_count 0 c.active) (active_count 3 0)

-- ---- the row

-- a slot's id and phase: id 0 and phase free of a free one
abbrev pub entry_of : Slot → Entry
entry_of x = record { id = x.id; phase = x.phase }

abbrev pub entries : Channel → List Entry
entries c = map entry_of c.slots

-- what a call answers, and the row after it
pub record Shown (A : Type 0) : Type 0 where
  pub number : ℕ
  pub row : List A

abbrev pub shown : {A : Type 0} → ℕ → List A → Shown A
shown n row = record { number = n; row = row }

-- the number of an answer, 0 where the row is filled
abbrev pub refused_by : Result Unit Refusal → ℕ
refused_by (Ok u) = 0
refused_by (Err r) = refusal_of r

-- 3 for a state that fails finish's shape check, then 9 for a row of less than eight places
unfoldable pub row_number : Channel → ℕ → ℕ
row_number c places = cond (plain_shape c) (cond (ltb places slot_count) 9 0) 3

-- a row that is refused is as it was
unfoldable pub filled_if : {A : Type 0} → ℕ → List A → List A → Shown A
filled_if n filled row = shown n (cond (eqb n 0) filled row)

-- the first eight entries are the slots', in their order; those past the eighth stay
unfoldable pub shown_in : Channel → List Entry → Shown Entry
shown_in c row = filled_if (row_number c (length row)) (entries c ++ drop slot_count row) row

-- ---- the same in bytes, three for an entry: the id (2), little-endian, and the phase's code (1)

abbrev pub entry : Field Entry
entry = standing (both (number 2) phase) (λ e. (e.id, e.phase)) (λ t. record { id = t.0; phase = t.1 })

unfoldable pub shown_in_bytes : Channel → List ℕ → Shown ℕ
shown_in_bytes c row = filled_if (row_number c (length row / entry.width)) (write row 0 (put_all entry (entries c))) row
