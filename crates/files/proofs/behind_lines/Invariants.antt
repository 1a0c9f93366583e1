-- `files::behind_lines`: as many line ends are left as there are turns. Assumes nothing.
use Rattle.std.proofs.Common.{◌≡◌, ◌-◌}
use Rattle.files.specs.Words.{behind_lines}
use Rattle.files.proofs.behind_lines.Given as goal

abbrev pub invariant-loop : goal.invariant-loop
invariant-loop l = behind_lines (l.n - l.counter) l.rest ≡ behind_lines l.n l.bytes
