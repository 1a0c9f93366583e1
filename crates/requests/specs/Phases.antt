-- The phases of a request, and a slot that holds none. A phase is told by its number, so that a further phase is one line here.
-- These are definitions: they assume nothing.
use Rattle.std.specs.Prelude.{ℕ, ◌<◌, ◌≡◌, Bool, false, ◌||◌, eqb, Result, MatchResult}
use Rattle.requests.specs.declared.Phase.{Phase}
use Rattle.requests.specs.declared.Phase.TheVariants.{Free, Collecting, Waiting, Running, Draining}
use Rattle.requests.specs.declared.Slot.{Slot}
use Rattle.requests.specs.declared.NoPhase.{NoPhase}

unfoldable pub code : Phase → ℕ
code Free = 0
code Collecting = 1
code Waiting = 2
code Running = 3
code Draining = 4

-- the phase with this number, or an error with a number that no phase has
abbrev pub Decodes : ℕ → Result Phase NoPhase → Type 0
Decodes n r = MatchResult r (λ p. code p ≡ n) (λ e. (e.0 ≡ n) × (4 < n))

unfoldable pub is_phase : Phase → Phase → Bool
is_phase p q = eqb (code q) (code p)

-- data is taken for a request that waits for it, and for one that drains
abbrev pub takes_data : Phase → Bool
takes_data p = is_phase Waiting p || is_phase Draining p

-- finish accepts a request that waits for data, and one that runs
abbrev pub can_finish : Phase → Bool
can_finish p = is_phase Waiting p || is_phase Running p

-- free slots have id 0, data bit 0 and length 0
abbrev pub free_slot : Slot
free_slot = record { id = 0; phase = Free; databit = false; length = 0 }
