-- A record of the channel, read back. What is proved of it beside the contracts is `ReadBack` (in proofs/ReadBack.antt).
-- These are definitions: they assume nothing.
use Rattle.std.specs.Prelude.{ℕ, ◌+◌, ◌*◌, ◌/◌, ◌%◌, ◌<◌, ◌≡◌, Bool, ◌&&◌, ◌||◌, List, get_or, drop, eqb}
use Rattle.frame.specs.Records.{request_record}
use Rattle.records.specs.declared.Head.{Head}

-- the number in two bytes from a place on, the lower first; a byte that is not there counts as 0
unfoldable pub number_at : List ℕ → ℕ → ℕ
number_at s i = get_or s i 0 + 256 * get_or s (i + 1) 0

-- the head: behind the body's length the kind, the request and a byte. That byte's lowest bit is a command's data bit or data's last bit,
-- and the next one the mark of a command that is written loosely (E5)
unfoldable pub head_of : List ℕ → Head
head_of s = record { kind = number_at s 4; request = number_at s 6; bit = get_or s 8 0 % 2; loose = get_or s 8 0 / 2 % 2 }

-- a record that makes its request run: a command that no data follows, loosely written or not, or the last data
unfoldable pub runs : Head → Bool
runs h = (eqb h.kind 1 && eqb h.bit 0) || (eqb h.kind 2 && eqb h.bit 1)

-- what feed writes of a request is what is read back
pub record ReadBack (kind request bit loose : ℕ) (bytes : List ℕ) : Type 0 where
  pub head : head_of (request_record kind request (bit + 2 * loose) bytes) ≡ record { kind = kind; request = request; bit = bit; loose = loose }
  pub content : drop 9 (request_record kind request (bit + 2 * loose) bytes) ≡ bytes

abbrev pub AllReadBack : Type 0
AllReadBack = (kind request bit loose : ℕ) (bytes : List ℕ) → kind < 65536 → request < 65536 → bit < 2 → loose < 2 → ReadBack kind request bit loose bytes
