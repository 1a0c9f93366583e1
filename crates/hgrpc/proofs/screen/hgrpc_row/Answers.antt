-- `hgrpc::screen::hgrpc_row` meets its contract, by the state read and by the row.
-- Assumes nothing.
use Rattle.std.proofs.Common.{sym, ap, ◌∙◌}
use Rattle.std.specs.Prelude.{Result}
use Rattle.status.specs.declared.Refusal.{Refusal}
use Rattle.status.specs.Row.{refused_by, shown}
use Rattle.hgrpc.proofs.CallLaws.{opened, closed, row-none, row_done}
use Rattle.hgrpc.proofs.screen.hgrpc_row.Goals as goal

pub returns-in_default : goal.returns-in_default
returns-in_default c = row-none _ _ (closed _ _ c.in_default.is c.read.ensures.value)

pub returns-in-Ok : goal.returns-in-Ok
returns-in-Ok c =
    (row_done _ _ _ (opened _ _ _ c.in-Some.is c.read.ensures.value) _ _
    (ap (λ (r : Result Unit Refusal). shown (refused_by r) c.show_bytes.new.row) (sym c.in-Ok.is) ∙ c.show_bytes.ensures))

pub returns-in-Err : goal.returns-in-Err
returns-in-Err c =
    rw c.from.ensures
    (row_done _ _ _ (opened _ _ _ c.in-Some.is c.read.ensures.value) _ _
    (ap (λ (r : Result Unit Refusal). shown (refused_by r) c.show_bytes.new.row) (sym c.in-Err.is) ∙ c.show_bytes.ensures))
