-- `log_compare::lent::record_at` meets its contract, by what is left of the log from the place on.
-- Assumes nothing.
use Rattle.std.proofs.Common.{◌≡◌, ℕ, List, drop, ◌∙◌}
use Rattle.std.specs.Prelude.{Option, Some, None}
use Rattle.std.specs.Borrow.{Bor}
use Rattle.logs.specs.Steps.{IsFront, front_taken}
use Rattle.log_compare.proofs.Lents.{rest-is}
use Rattle.log_compare.proofs.lent.record_at.Goals as goal

front-is : (w : ℕ) (s t : List ℕ) (r : Option (Bor (List ℕ))) → front_taken w s r t → IsFront w s r
front-is w s t (Some r) h = (h.0, h.1)
front-is w s t None h = h.0

pub returns : goal.returns
returns c =
    let e : c.of.result.rest.now ≡ drop c.args.at c.args.log.now = c.of.ensures ∙ c.part.ensures ∙ rest-is c.args.log.now c.args.at in
    rw e at (front-is 4 _ _ _ c.next.ensures.steps)
