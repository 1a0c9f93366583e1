-- `log_compare::Comparing::bodies_go_on` meets its contract: as many bytes are compared as are at hand of both.
-- Assumes nothing.
use Rattle.std.proofs.Common.{◌≡◌, ℕ, min, List, take, length, sym, ap, ◌∙◌, arith}
use Rattle.std.proofs.lemmas.List.{take-take}
use lib.Seq.{length-take-le}
use Rattle.log_compare.specs.Partial.{under_way}
use Rattle.log_compare.specs.Steps.{standing}
use Rattle.log_compare.proofs.Moved.{Taken, taken, go_law}
use Rattle.log_compare.proofs.Comparing.bodies_go_on.Goals as goal

-- the bytes w of the body in the first log, as far as n go
first-taken : (left : ℕ) (a x : List ℕ) (w : List ℕ) (n : ℕ) → w ≡ take (min left (length a)) a → x ≡ take (min n (length w)) w → Taken a x (min left (min (length a) n))
first-taken left a x w n e f =
    let l : length w ≡ min left (length a) = rw e (length-take-le (min left (length a)) a (omega arith)) in
    record {
      is = f ∙ ap (take (min n (length w))) e
          ∙ take-take (min n (length w)) (min left (length a)) a (omega arith)
          ∙ ap (λ (m : ℕ). take m a) (omega arith);
      within = omega arith;
    }

pub returns : goal.returns
unfolding standing under_way
returns c =
    let s = c.args.self in
    let a = c.args.a.now in
    let b = c.args.b.now in
    let p = first-taken s.first.left a c.front-x.result.now c.body.result.now (length b) c.body.ensures c.front-x.ensures in
    let l : length c.front-x.result.now ≡ min s.first.left (min (length a) (length b)) = rw (p.is) (length-take-le (min s.first.left (min (length a) (length b))) a p.within) in
    let k : min (length c.front-x.result.now) (length b) ≡ min s.first.left (min (length a) (length b)) = omega arith in
    let q = taken {s = b} c.front-y.ensures k (omega arith) in
    c.compared.ensures ∙ go_law (standing s) a b p q c.same_key.result (sym c.same_key.ensures)
