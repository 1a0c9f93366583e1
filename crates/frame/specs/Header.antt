-- A frame's header, as document 01, "Frame header", states it.
-- These are definitions: they assume nothing.
use Rattle.std.specs.Prelude.{ℕ, ◌+◌, ◌*◌, ◌/◌, ◌%◌, List, [], ◌∷◌, ◌++◌, get_or}
use Rattle.frame.specs.declared.Header.{Header}
use Rattle.frame.specs.Records.{two}

-- the payload length, in the first three bytes
unfoldable pub length_of : List ℕ → ℕ
length_of w = get_or w 0 0 + 256 * get_or w 1 0 + 65536 * get_or w 2 0

-- the eight bytes at the front of a frame; a byte that is not there counts as 0
unfoldable pub header_of : List ℕ → Header
header_of w = record {
  length = length_of w;
  request = get_or w 3 0 + 256 * get_or w 4 0;
  stream = get_or w 5 0;
  stream_flags = get_or w 6 0;
  kind = get_or w 7 0 / 16;
  flags = get_or w 7 0 % 16;
}

-- ---- writing it

-- a number in three bytes, the lower first
abbrev pub three : ℕ → List ℕ
three n = n % 256 ∷ n / 256 % 256 ∷ n / 65536 % 256 ∷ []

-- the eight bytes of a header: of the type and the flags, the low four bits
unfoldable pub header_bytes : Header → List ℕ
header_bytes h = three h.length ++ two h.request ++ h.stream ∷ h.stream_flags ∷ (h.kind % 16 * 16 + h.flags % 16) ∷ []
