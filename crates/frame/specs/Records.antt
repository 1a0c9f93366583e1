-- The bytes of a record, as document 01, "Records", states them: body length (4, little-endian, body only: E7), kind (2, little-endian), body.
-- These are definitions: they assume nothing.
use Rattle.std.specs.Prelude.{ℕ, ◌/◌, ◌%◌, Bool, true, false, List, [], ◌∷◌, ◌++◌, length}

-- a number in two bytes, the lower first
abbrev pub two : ℕ → List ℕ
two n = n % 256 ∷ n / 256 % 256 ∷ []

-- and in four
abbrev pub four : ℕ → List ℕ
four n = n % 256 ∷ n / 256 % 256 ∷ n / 65536 % 256 ∷ n / 16777216 % 256 ∷ []

unfoldable pub bit : Bool → ℕ
bit true = 1
bit false = 0

unfoldable pub record_of : ℕ → List ℕ → List ℕ
record_of kind body = four (length body) ++ two kind ++ body

-- both kinds of body: request id (2), a byte, which is data's last bit or a command's data bit with its mark, command bytes or payload
abbrev pub request_record : ℕ → ℕ → ℕ → List ℕ → List ℕ
request_record kind request third bytes = record_of kind (two request ++ third ∷ bytes)
