-- An entry in numbers, by its three kinds.
-- Assumes nothing.
use Rattle.log_compare.specs.Entries.{entry_told}
use Rattle.log_compare.proofs.ToldFromEntry.from.Goals as goal

pub returns-in-Both : goal.returns-in-Both
unfolding entry_told
returns-in-Both c = rw c.in-Both.is

pub returns-in-First : goal.returns-in-First
unfolding entry_told
returns-in-First c = rw c.in-First.is

pub returns-in-Second : goal.returns-in-Second
unfolding entry_told
returns-in-Second c = rw c.in-Second.is
