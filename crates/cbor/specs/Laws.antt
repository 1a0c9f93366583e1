-- What is proved of the heads that are written, in proofs/HeadLaws.antt: reading gives them back, none that reads as the same number is
-- shorter, and a head that was read is told to be shortest exactly if it is as long. These are definitions: they assume nothing.
use Rattle.std.specs.Prelude.{ℕ, ◌+◌, ◌≤◌, ◌<◌, ◌^◌, ◌≡◌, List, Option, None, Some, ◌++◌, length, get_or, eqb}
use Rattle.cbor.specs.declared.Head.{Head}
use Rattle.cbor.specs.Cbor.{shortest, is_shortest, head_at}
use Rattle.cbor.specs.Heads.{head_bytes}

-- for every major type and every number of 64 bits, whatever bytes follow
abbrev pub HeadBack : Type 0
HeadBack = (major n : ℕ) (rest : List ℕ) → n < 2 ^ 64 → head_at (head_bytes major n ++ rest) 0 ≡ Some (record { major = major; info = shortest n; value = n; next = length (head_bytes major n) })

-- a head that was read at a position, if one was, ends no sooner than the one that is written for its number would
abbrev pub NotShorter : ℕ → Option Head → Type 0
NotShorter at None = Unit {0}
NotShorter at (Some h) = at + length (head_bytes h.major h.value) ≤ h.next

abbrev pub NoneShorter : Type 0
NoneShorter = (s : List ℕ) → ((i : ℕ) → get_or s i 0 < 256) → (at : ℕ) → NotShorter at (head_at s at)

-- a head that was read at a position, if one was, is the shortest exactly if it ends where the one that is written for its number would (E5)
abbrev pub AsWritten : ℕ → Option Head → Type 0
AsWritten at None = Unit {0}
AsWritten at (Some h) = is_shortest (Some h) ≡ eqb (at + length (head_bytes h.major h.value)) h.next

abbrev pub ShortestTold : Type 0
ShortestTold = (s : List ℕ) (at : ℕ) → AsWritten at (head_at s at)
