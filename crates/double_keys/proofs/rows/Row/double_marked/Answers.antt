-- `double_keys::rows::Row::double_marked` meets its contract: the search among the keys that share their marks answers for all.
-- Assumes nothing.
use Rattle.double_keys.proofs.Shared.{answers}
use Rattle.double_keys.proofs.rows.Row.double_marked.Goals as goal

pub returns : goal.returns
returns g c =
    answers _ _ _ _ _ _ _ _ _ c.mark_keys.ensures c.list_shared-m.ensures c.args.self.in_s _ c.search.ensures
