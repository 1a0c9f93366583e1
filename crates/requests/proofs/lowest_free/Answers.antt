-- `requests::lowest_free` meets its contract, by the library's search.
use Rattle.std.proofs.Common.{◌∙◌, rules, tests}
use Rattle.std.proofs.lemmas.Iterator.{YieldsList-from_slice}
use Rattle.std.proofs.lemmas.Iterator.Search.{position_from_yields_List}
use Rattle.requests.specs.declared.Phase.TheVariants.{Free}
use Rattle.requests.specs.Slots.{in_phase}
use Rattle.requests.proofs.Search.{place-is}
use Rattle.requests.proofs.lowest_free.Goals as goal

pub returns : goal.returns
returns c =
    let found =
    position_from_yields_List (in_phase Free) _ _ _ c.position.ensures.ran (YieldsList-from_slice c.args.slots.now cc) (λ x b q k. search (rules, tests))
    ∙ place-is _ _ c.told-slots in
    search (found, rules, tests)
