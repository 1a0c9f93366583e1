-- `keys::by_bytes` meets its contract. The loop's invariant: what follows the i bytes passed decides.
-- Assumes nothing.
use Rattle.std.proofs.Common.{◌≡◌, drop}
use Rattle.keys.specs.Order.{by_bytes}
use Rattle.keys.proofs.by_bytes.Given as goal

abbrev pub invariant-loop-i : goal.invariant-loop-i
invariant-loop-i l = by_bytes l.a l.b ≡ by_bytes (drop l.i l.a) (drop l.i l.b)
