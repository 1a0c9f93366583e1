-- `double_keys::rows::Row::double_key` meets its contract: the search among all keys answers for all.
-- Assumes nothing.
use Rattle.std.proofs.Common.{arith}
use Rattle.double_keys.proofs.Shared.{all_listed, all-answer}
use Rattle.double_keys.proofs.rows.Row.double_key.Goals as goal

pub search-requires : goal.search-requires
search-requires c = all_listed c.list_all.ensures (omega (arith, c.list_all.ensures.long, c.args.self.few))

pub returns : goal.returns
returns c = all-answer c.list_all.ensures _ _ _ c.args.self.in_s _ c.search.ensures
