-- The same without recursion over containers: the heads one behind the other up to the end of the bytes, a byte string's content skipped.
-- Bytes that are one item have no other heads, so both come to the same (`ScanHolds`, in proofs/ScanLaws.antt).
-- These are definitions: they assume nothing.
use Rattle.std.specs.Prelude.{ℕ, zero, suc, ◌≡◌, List, Bool, true, false, cond, ◌||◌, not, length, ltb, eqb, Option, None, Some}
use Rattle.cbor.specs.declared.Head.{Head}
use Rattle.cbor.specs.Cbor.{is_shortest, head_at, end_of, is_item}
use Rattle.loose.specs.Loose.{loose}

module _ (s : List ℕ) where
  -- the position behind a head of this major type and number, which ends at a position, and behind a byte string's content
  abbrev pub behind_of : ℕ → ℕ → ℕ → ℕ
  behind_of major n next = cond (eqb major 2) (end_of s next n) next

  -- the same of a head that was read; the end where no head stands
  abbrev pub behind : Option Head → ℕ
  behind None = length s
  behind (Some h) = behind_of h.major h.value h.next

  -- one of the heads from a position on, at most k of them, is not the shortest
  unfoldable pub scan : ℕ → ℕ → Bool
  scan zero at = false
  scan (suc k) at = cond (ltb at (length s)) (not (is_shortest (head_at s at)) || scan k (behind (head_at s at))) false

  -- one of all: each takes a byte or more
  unfoldable pub scanned : Bool
  scanned = scan (length s) 0

abbrev pub ScanHolds : Type 0
ScanHolds = (s : List ℕ) → is_item s ≡ true → scanned s ≡ loose s 8 0
