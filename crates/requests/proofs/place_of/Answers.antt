-- `requests::place_of` meets its contract, by the library's search.
use Rattle.std.proofs.Common.{◌∙◌, rules, tests}
use Rattle.std.proofs.lemmas.Iterator.{YieldsList-from_slice}
use Rattle.std.proofs.lemmas.Iterator.Search.{position_from_yields_List}
use Rattle.requests.specs.Slots.{is_id}
use Rattle.requests.proofs.Search.{place-is}
use Rattle.requests.proofs.place_of.Goals as goal

pub returns : goal.returns
returns c =
    let found =
    position_from_yields_List (is_id c.args.id) _ _ _ c.position.ensures.ran (YieldsList-from_slice c.args.slots.now cc) (λ x b q k. search (rules, tests))
    ∙ place-is _ _ c.told-slots in
    search (found, rules, tests)
