-- The reading of the whole piece is what was read so far and the reading of the rest from there. The measure is that rest.
use Rattle.std.proofs.Common.{◌≡◌, length}
use Rattle.log_compare.specs.Scan.{scan_of, scan_view}
use Rattle.log_compare.proofs.Scanning.scan.Given as goal

abbrev pub invariant-loop-rest : goal.invariant-loop-rest
invariant-loop-rest l = scan_of (scan_view l.fn.self) l.piece ≡ scan_of (scan_view l.s) l.rest

abbrev pub decreases-loop-rest : goal.decreases-loop-rest
decreases-loop-rest l = length l.rest
