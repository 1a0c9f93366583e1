-- `requests::id_in` meets its contract, by the library's search.
use Rattle.std.proofs.Common.{◌∙◌, rules, tests}
use Rattle.std.proofs.lemmas.Iterator.{YieldsList-from_slice}
use Rattle.std.proofs.lemmas.Iterator.Search.{any_from_yields_List}
use Rattle.requests.specs.Slots.{is_id}
use Rattle.requests.proofs.Search.{any-is}
use Rattle.requests.proofs.id_in.Goals as goal

pub returns : goal.returns
returns c =
    any_from_yields_List (is_id c.args.id) _ _ _ c.any.ensures.ran (YieldsList-from_slice c.args.slots.now cc) (λ x b q k. search (rules, tests))
    ∙ any-is _ _
