-- What the calls answer that compare two stored logs, by the comparison's own definitions. These are definitions: they assume nothing.
use Rattle.std.specs.Prelude.{ℕ, Bool, List}
use Rattle.log_compare.specs.Entries.{told_of}
use Rattle.log_compare.specs.Scan.{Scanned, scan_view}
use Rattle.log_compare.specs.Steps.{Standing, standing, step_of}
use Rattle.log_compare.specs.Places.{next_of}
use Rattle.log_compare.specs.declared.Told.{Told}
use Rattle.log_compare.specs.declared.Place.{Place}
use Rattle.log_compare.specs.declared.Partial.{Partial}

-- ---- structs, by their fields

abbrev pub told : ℕ → ℕ → ℕ → ℕ → Told
told logs number first second = record { logs = logs; number = number; first = first; second = second }

abbrev pub place : ℕ → ℕ → ℕ → Place
place number first second = record { number = number; first = first; second = second }

abbrev pub under : List ℕ → ℕ → ℕ → Partial
under head held left = record { head = head; held = held; left = left }

abbrev pub scanned : Partial → ℕ → ℕ → Scanned
scanned u start place = scan_view (record { under = u; start = start; place = place })

abbrev pub compared : ℕ → ℕ → Partial → Partial → ℕ → Standing
compared number length first second alike = standing (record { number = number; length = length; first = first; second = second; alike = alike })

-- ---- lent logs: the next entry, and the place behind its record

pub record Next : Type 0 where
  pub said : Told
  pub place : Place

abbrev pub next : Told → Place → Next
next t p = record { said = t; place = p }

unfoldable pub next_call : Place → List ℕ → List ℕ → Next
next_call p a b = next (told_of (next_of p a b).said) (next_of p a b).next

-- ---- logs in pieces: what is said, where the comparison then stands, and the bytes taken of each piece

pub record Step : Type 0 where
  pub said : Told
  pub state : Standing
  pub first : ℕ
  pub second : ℕ

abbrev pub step : Told → Standing → ℕ → ℕ → Step
step t c j k = record { said = t; state = c; first = j; second = k }

unfoldable pub step_call : Standing → List ℕ → Bool → List ℕ → Bool → Step
step_call c a aLast b bLast =
    let r = step_of c a aLast b bLast in
    step (told_of r.said) r.state r.first r.second
