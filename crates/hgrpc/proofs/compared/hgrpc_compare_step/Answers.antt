-- `hgrpc::compared::hgrpc_compare_step` meets its contract, by what `step` and `tell` answer.
-- Assumes nothing.
use Rattle.std.proofs.Common.{ap, ◌∙◌}
use Rattle.log_compare.specs.Entries.{told_of}
use Rattle.log_compare.specs.Steps.{Stepped, standing, stepped}
use Rattle.log_compare.specs.declared.Told.{Told}
use Rattle.hgrpc.specs.Compared.{Step, step, step_call}
use Rattle.hgrpc.proofs.compared.hgrpc_compare_step.Goals as goal

pub returns : goal.returns
unfolding step_call stepped
returns c =
    let s = c.step-step in
    let r = s.result in
    rw (c.put_under.ensures, c.put_under-2.ensures)
    (ap (λ (t : Told). step t (standing r.state) r.first r.second) c.put_entry.ensures
    ∙ ap {B = Step} (λ (x : Stepped). step (told_of x.said) x.state x.first x.second) s.ensures)
