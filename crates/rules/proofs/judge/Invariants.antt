-- The rules before this one are not broken.
use Rattle.std.proofs.Common.{◌≡◌, drop}
use Rattle.rules.specs.Stages.{first_of}
use Rattle.rules.proofs.judge.Given as goal

abbrev pub invariant-loop-is_broken : goal.invariant-loop-is_broken
invariant-loop-is_broken l = first_of l.table ≡ first_of (drop l.is_broken-index l.table)
