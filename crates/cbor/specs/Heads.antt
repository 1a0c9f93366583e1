-- Writing a head: the shortest for its number, by RFC 7049. What it reads as is in proofs/HeadLaws.antt.
-- These are definitions: they assume nothing.
use Rattle.std.specs.Prelude.{ℕ, zero, suc, ◌+◌, ◌*◌, ◌/◌, ◌%◌, List, [], ◌∷◌, ◌++◌, length}
use Rattle.cbor.specs.Cbor.{width, shortest}

-- a number in w bytes, the highest first
unfoldable pub big_bytes : ℕ → ℕ → List ℕ
big_bytes zero n = []
big_bytes (suc w) n = big_bytes w (n / 256) ++ (n % 256 ∷ [])

-- the shortest head of a major type and a number below 2^64
unfoldable pub head_bytes : ℕ → ℕ → List ℕ
head_bytes major n = (major * 32 + shortest n) ∷ big_bytes (width (shortest n)) n

-- a byte string
unfoldable pub string_bytes : List ℕ → List ℕ
string_bytes s = head_bytes 2 (length s) ++ s
