-- What is left to read is what is left of the n, from here on.
use Rattle.std.proofs.Common.{◌-◌}
use Rattle.cbor.specs.Cbor.{Reader, Reads}
use Rattle.cbor.proofs.Turns.{Left}
use Rattle.cbor.proofs.repeat.Given as goal

abbrev pub invariant-loop : goal.invariant-loop
invariant-loop g l = (r : Reader) → Reads (goal.R-post g l.read) r → Left r l.n l.at (l.n - l.counter) l.p
