-- `status::entries` meets its contract: each slot gives its entry.
use Rattle.std.proofs.Common.{◌≡◌, ℕ, ◌<◌, List, map, length, get_or, sym, ◌∙◌, arith, rules, tests}
use lib.ListN.{length-map, get_or-map}
use Rattle.std.proofs.lemmas.List.{same_lists, get_or_default}
use Rattle.requests.specs.Phases.{free_slot}
use Rattle.requests.specs.declared.Slot.{Slot}
use Rattle.status.specs.declared.Entry.{Entry}
use Rattle.channel.proofs.Handed.{eight}
use Rattle.status.specs.Row.{entry_of}
use Rattle.status.proofs.entries.Goals as goal

mapped : (xs : List Slot) (i : ℕ) (d : Entry) → i < length xs → get_or (map entry_of xs) i d ≡ entry_of (get_or xs i free_slot)
mapped xs i d h = get_or_default (map entry_of xs) i d (entry_of free_slot) (omega (arith, length-map xs entry_of)) ∙ get_or-map entry_of xs i free_slot

pub returns : goal.returns
returns c =
    let e = eight c.args.c _ c.well_formed.0 in
    let each : (i : ℕ) (d : Entry) → i < 8 → get_or c.map.result i d ≡ entry_of (get_or c.args.c.slots i free_slot) =
    λ i d h. let k = (c.map.ensures.items.at i free_slot d h).2 in search (rules, tests, k) in
    same_lists _ _ (c.map.ensures.items.long ∙ sym (length-map c.args.c.slots entry_of ∙ e))
    (λ i d h. let l : i < 8 = omega (arith, h, c.map.ensures.items.long) in each i d l ∙ sym (mapped c.args.c.slots i d (omega (arith, l, e))))
