-- The search goes on from p with the entries left, and each turn leaves one fewer.
use Rattle.std.proofs.Common.{◌≡◌, ◌-◌}
use Rattle.entries.specs.Entries.{entries, find}
use Rattle.entries.proofs.find_key.Given as goal

abbrev pub invariant-loop : goal.invariant-loop
invariant-loop l = find l.s l.key (entries l.s l.levels l.n l.at) ≡ find l.s l.key (entries l.s l.levels (l.n - l.counter) l.p)
