-- `Channel::read`'s loop: the reading of the whole input is what was read so far and the reading of the rest from here.
use Rattle.std.proofs.Common.{◌≡◌, length, ◌-◌}
use Rattle.channel.specs.Steps.{receiver}
use Rattle.channel.proofs.LoopLaws.{So}
use Rattle.channel.proofs.Channel.read.Given as goal

abbrev pub invariant-loop-taken : goal.invariant-loop-taken
invariant-loop-taken l =
    (length l.work ≡ length l.initial.work) × So (receiver l.initial.next l.initial.work) l.initial.out l.input (receiver l.next l.work) l.taken l.written l.out

abbrev pub decreases-loop-taken : goal.decreases-loop-taken
decreases-loop-taken l = length l.input - l.taken
