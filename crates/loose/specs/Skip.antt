-- What private functions answer, or ask for, that pass a head without reading its number. No public promise cites it. It assumes nothing.
use Rattle.std.specs.Prelude.{ℕ, ◌*◌, ◌/◌, ◌%◌, ◌^◌, ◌≤◌, ◌<◌, ◌≡◌, true, List, get_or}
use Rattle.cbor.specs.Cbor.{width, shortest, is_shortest, head_at}
use Rattle.loose.specs.Scan.{behind}

-- the position that is answered, if one is: the head is the shortest, and it lies behind it
pub record Skips (s : List ℕ) (at r : ℕ) : Type 0 where
  pub shortest : is_shortest (head_at s at) ≡ true
  pub on : r ≡ behind s (head_at s at)

-- what `skip_half` asks for: a head with twice so many bytes behind its first, not a byte string's, which is the shortest for the numbers that
-- half of them cannot hold
pub record Halved (s : List ℕ) (at half : ℕ) : Type 0 where
  pub other : get_or s at 0 / 32 ≡ 2 → ⊥
  pub wide : 24 ≤ get_or s at 0 % 32
  pub known : get_or s at 0 % 32 < 28
  pub twice : width (get_or s at 0 % 32) ≡ 2 * half
  pub most : half ≤ 4
  pub told : (n : ℕ) → 256 ^ half ≤ n → n < 256 ^ (2 * half) → shortest n ≡ get_or s at 0 % 32
