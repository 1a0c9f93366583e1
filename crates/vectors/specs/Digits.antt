-- Bytes as pairs of hex digits. These are definitions: they assume nothing.
use Rattle.std.specs.Prelude.{ℕ, ◌/◌, ◌%◌, ◌<◌, ◌≡◌, cond, List, get_or, eqb}

-- the digit number k of the bytes, counted from 0: a byte's high half comes first
unfoldable pub digit_at : List ℕ → ℕ → ℕ
digit_at bytes k = cond (eqb (k % 2) 0) (get_or bytes (k / 2) 0 / 16) (get_or bytes (k / 2) 0 % 16)

-- the digit number k is d now, and those before it are as they were
pub record Stored (d k : ℕ) (old new : List ℕ) : Type 0 where
  pub here : digit_at new k ≡ d
  pub before_it : (j : ℕ) → j < k → digit_at new j ≡ digit_at old j
