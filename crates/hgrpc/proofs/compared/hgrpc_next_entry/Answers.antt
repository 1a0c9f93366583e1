-- `hgrpc::compared::hgrpc_next_entry` meets its contract, by what `next` and `tell` answer.
-- Assumes nothing.
use Rattle.std.proofs.Common.{ap, ◌∙◌}
use Rattle.log_compare.specs.Entries.{told_of}
use Rattle.log_compare.specs.declared.Found.{Found}
use Rattle.log_compare.specs.declared.Told.{Told}
use Rattle.hgrpc.specs.Compared.{Next, next, next_call}
use Rattle.hgrpc.proofs.compared.hgrpc_next_entry.Goals as goal

pub returns : goal.returns
unfolding next_call
returns c = ap (λ (t : Told). next t c.next-found.result.next) c.put_entry.ensures ∙ ap {B = Next} (λ (f : Found). next (told_of f.said) f.next) c.next-found.ensures
