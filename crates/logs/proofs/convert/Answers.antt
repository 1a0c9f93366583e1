-- `logs::convert` meets its contract, by the three answers.
-- Assumes nothing.
use Rattle.std.proofs.Common.{◌≡◌, ℕ, List, length, sym, ap, ◌∙◌, arith}
use Rattle.logs.specs.Logs.{whole_length}
use Rattle.logs.specs.Convert.{wider}
use Rattle.logs.specs.declared.Front.{Front}
use Rattle.logs.proofs.Alike.{cut, short, done}
use Rattle.logs.proofs.convert.Goals as goal

-- what was measured
module _ (log : List ℕ) (front : Front) (e : front ≡ record { length = whole_length 2 log; total = length (wider log) }) where
  old : whole_length 2 log ≡ front.length
  old = sym (ap (λ (f : Front). f.length) e)

  new : length (wider log) ≡ front.total
  new = sym (ap (λ (f : Front). f.total) e)

pub returns-then-front-log : goal.returns-then-front-log
returns-then-front-log c =
    let a = c.args in
    sym (cut a.log.now a.out.now (λ e. c.if-front-log.true (sym (old _ _ c.measured-front.ensures) ∙ e)))

pub returns-then-out-front : goal.returns-then-out-front
returns-then-out-front c =
    let a = c.args in
    let m = c.measured-front.ensures in
    sym (short a.log.now a.out.now (old _ _ m ∙ c.if-front-log.false) (omega (arith, new _ _ m)))

pub put_all-requires : goal.put_all-requires
put_all-requires c = omega (arith, new _ _ c.measured-front.ensures)

pub returns : goal.returns
returns c =
    let a = c.args in
    let m = c.measured-front.ensures in
    rw (c.put_all.ensures, ← new _ _ m) (sym (done a.log.now a.out.now (old _ _ m ∙ c.if-front-log.false) (omega (arith, new _ _ m))))
