-- `double_keys::key_hash` meets its contract. The loop's invariant: the key's number is made of h and what follows the bytes passed, and h
-- is below 2^32. Assumes nothing.
use Rattle.std.proofs.Common.{◌≡◌, ◌<◌, drop}
use Rattle.double_keys.specs.Search.{hash_from, hash}
use Rattle.double_keys.proofs.rows.key_hash.Given as goal

abbrev pub invariant-loop-b : goal.invariant-loop-b
invariant-loop-b l = (l.h < 4294967296) × (hash l.key ≡ hash_from l.h (drop l.b-index l.key))
