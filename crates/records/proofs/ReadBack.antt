-- What feed writes of a request is what is read back.
-- Assumes nothing.
use Prim.Native.Nat.{ℕ, ◌+◌, ◌*◌, ◌/◌, ◌%◌, ◌<◌}
use mathlib.Core.Path.{◌≡◌, refl}
use native.Mathlib.Omega.{arith}
use Rattle.frame.specs.Records.{record_of}
use Rattle.records.specs.Records.{number_at, head_of, AllReadBack}

-- a number below 65,536 in two bytes
pub joined : (n : ℕ) → n < 65536 → n % 256 + 256 * (n / 256 % 256) ≡ n
joined n h = omega arith

-- a bit and a mark in one byte
low : (bit loose : ℕ) → bit < 2 → (bit + 2 * loose) % 2 ≡ bit
low bit loose b = omega arith

high : (bit loose : ℕ) → bit < 2 → loose < 2 → (bit + 2 * loose) / 2 % 2 ≡ loose
high bit loose b l = omega arith

pub all-read-back : AllReadBack
unfolding record_of number_at head_of
all-read-back kind request bit loose bytes k r b l = record { head = rw (joined kind k, joined request r, low bit loose b, high bit loose b l); content = refl }
