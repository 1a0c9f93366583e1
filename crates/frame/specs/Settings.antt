-- The payload of stream settings: one byte string of definite length, its head of any width, that reads `identity`, and nothing after it.
-- These are definitions: they assume nothing.
use Rattle.std.specs.Prelude.{ℕ, Bool, false, ◌&&◌, List, [], ◌∷◌, length, eqb}
use Rattle.cbor.specs.Cbor.{if_bytes, item_at}
use Rattle.keys.specs.Keys.{part, equal}

abbrev pub identity : List ℕ
identity = 0x69 ∷ 0x64 ∷ 0x65 ∷ 0x6e ∷ 0x74 ∷ 0x69 ∷ 0x74 ∷ 0x79 ∷ []

unfoldable pub is_identity : List ℕ → Bool
is_identity p = if_bytes (item_at p 0) (λ start stop. eqb stop (length p) && equal (part p start stop) identity) false
