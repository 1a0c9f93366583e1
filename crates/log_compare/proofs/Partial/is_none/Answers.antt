-- `log_compare::Partial::is_none` meets its contract, by how many bytes of a head are held.
-- Assumes nothing.
use Rattle.std.proofs.Common.{◌≡◌, length, arith, eq-eqb, ne_eqb}
use Rattle.log_compare.proofs.Held.{none-held}
use Rattle.log_compare.proofs.Partial.is_none.Goals as goal

pub returns-then-self-eq0 : goal.returns-then-self-eq0
returns-then-self-eq0 c =
    let six : length c.args.self.head ≡ 6 = omega arith in
    rw (none-held c.args.self six, eq-eqb c.args.self.left 0 (omega arith))

pub returns-else-self-eq0 : goal.returns-else-self-eq0
returns-else-self-eq0 c =
    let six : length c.args.self.head ≡ 6 = omega arith in
    rw (none-held c.args.self six, ne_eqb c.args.self.left 0 (λ z. omega arith))
