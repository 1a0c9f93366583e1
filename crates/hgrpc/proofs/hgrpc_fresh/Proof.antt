-- `hgrpc::hgrpc_fresh` meets its contract, by the length of what is lent.
-- Assumes nothing.
use borrow.Author.Rules.{rules}
use Rattle.hgrpc.proofs.CallLaws.{fresh-other, fresh-done}
use Rattle.hgrpc.proofs.hgrpc_fresh.Statement.{statement}
use Rattle.hgrpc.proofs.hgrpc_fresh.Tie as tie

returns : tie.Need-returns-then-state-ne-STATE
returns c = fresh-other _ c.if-state-ne-STATE.true

returns-2 : tie.Need-returns
returns-2 c =
    let p = c.before.before in
    fresh-done _ p.if-state-ne-STATE.false _ _ p.fresh.ensures p.put_state.ensures

pub hgrpc_fresh_spec : {M : Type 1} → statement M
hgrpc_fresh_spec =
    tie.close
    (tie.spec
    returns
    (λ c κs. search rules)
    (λ c κs. search rules)
    (λ c. search rules)
    returns-2)
