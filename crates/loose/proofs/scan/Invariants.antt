-- What is left to say is the scan from the position reached.
use Rattle.std.proofs.Common.{◌-◌, ◌≡◌, length}
use Rattle.loose.specs.Scan.{scanned}
use Rattle.loose.proofs.ScanLaws.{from}
use Rattle.loose.proofs.scan.Given as goal

abbrev pub invariant-loop-p : goal.invariant-loop-p
invariant-loop-p l = scanned l.s ≡ from l.s l.p

abbrev pub decreases-loop-p : goal.decreases-loop-p
decreases-loop-p l = length l.s - l.p
