-- What the iterator over entries gives. No public promise cites this.
use Rattle.std.specs.Prelude.{ℕ, ◌≡◌, ◌<◌, ◌-◌, List, [], Option, None, Some}
use Rattle.entries.specs.declared.Entry.{Entry}
use Rattle.entries.specs.Entries.{next_of, entry_at, entries}

-- of at most `left` entries at a position: the first, and what is then left, and where; or that there is none, and then none is left
abbrev pub Gives : List ℕ → ℕ → ℕ → ℕ → Option Entry → ℕ → ℕ → Type 0
Gives s levels left at (Some e) left' at' = (0 < left) × (Some e ≡ entry_at s levels at) × (left' ≡ left - 1) × (at' ≡ next_of e)
Gives s levels left at None left' at' = (entries s levels left at ≡ []) × (left' ≡ 0) × (at' ≡ at)
