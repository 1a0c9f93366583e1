-- A log that comes in pieces, read through for a break, byte by byte. These are definitions: they assume nothing.
use Rattle.std.specs.Prelude.{ℕ, ◌+◌, ◌-◌, ◌%◌, ◌^◌, cond, List, [], ◌∷◌, length, replicate, nat_lt}
use mathlib.Core.List.{foldl}
use Rattle.log_compare.specs.Partial.{UnderWay, is_none, takes, under_way}
use Rattle.log_compare.specs.declared.Scanning.{Scanning}

-- the record under way, the place where it starts, and how many bytes were taken
pub record Scanned : Type 0 where
  pub under : UnderWay
  pub start : ℕ
  pub place : ℕ

abbrev pub unread : Scanning
unread = record { under = record { head = replicate 6 0; held = 0; left = 0 }; start = 0; place = 0 }

-- some bytes are taken: where none is under way then, the next record starts
unfoldable pub reached : UnderWay → ℕ → ℕ → Scanned
reached u start place = record { under = u; start = cond (is_none u) place start; place = place }

unfoldable pub settled : Scanned → List ℕ → Scanned
settled s bytes = reached (takes s.under bytes) s.start ((s.place + length bytes) % 2 ^ 64)

-- how many bytes end the head or the body under way
unfoldable pub reach_of : UnderWay → ℕ
reach_of u = cond (nat_lt 0 u.left) u.left (6 - length u.head)

unfoldable pub scan_of : Scanned → List ℕ → Scanned
scan_of s bytes = foldl (λ (t : Scanned) (b : ℕ). settled t (b ∷ [])) s bytes

-- what the code's struct stands for
unfoldable pub scan_view : Scanning → Scanned
scan_view s = record { under = under_way s.under; start = s.start; place = s.place }
