-- The loop's invariant: what is left to read, to judge and to keep is the entries from p on.
-- Assumes nothing.
use mathlib.Core.List.{foldl}
use Rattle.std.proofs.Common.{◌≡◌, ◌-◌}
use Rattle.entries.specs.Entries.{entries}
use Rattle.double_keys.proofs.RowLaws.{Walking}
use Rattle.command_map.specs.Walk.{judge_next, judged}
use Rattle.command_map.proofs.read_fields.Given as goal

abbrev pub invariant-loop : goal.invariant-loop
invariant-loop l =
    (judged l.s (entries l.s 7 l.n l.at) ≡ foldl (judge_next l.s) l.judged (entries l.s 7 (l.n - l.counter) l.p))
    × Walking l.s 7 l.n l.at l.initial.starts l.initial.stops l.starts l.stops l.p (l.n - l.counter) l.kept
