-- `command_map::map_of` meets its contract: where the walk ended, what it judged, and whether the outer map has a key twice,
-- which it has if its keys are allowed and more than three.
-- Assumes nothing.
use Rattle.std.proofs.Common.{◌≡◌, ◌<◌, true, sym, ◌∙◌, arith}
use borrow.Author.Tests.{ne_eqb}
use Rattle.keys.specs.Keys.{twice}
use Rattle.entries.specs.Entries.{contents, entries}
use Rattle.double_keys.proofs.RowLaws.{row-answers}
use Rattle.command_map.specs.CommandMap.{map_checked}
use Rattle.command_map.proofs.Answers.{still-single, err-is}
use Rattle.command_map.proofs.Judgement.{walked-to, map_whole}
use Rattle.command_map.proofs.Crowded.{too_many, is-judged}
use Rattle.command_map.proofs.map_of.Goals as goal
use Rattle.command_map.proofs.map_of.Goals.{then-n-gt3-via-then-n-gt3, then-n-gt3-via-else-n-gt3+then-row_double}

pub returns-in_default : goal.returns-in_default
unfolding map_checked
returns-in_default c = let w = rw c.in_default.is at c.read_fields.ensures in rw (← w)

pub returns-then-f-s : goal.returns-then-f-s
unfolding map_checked
returns-then-f-s c = let w = walked-to _ _ _ _ _ _ _ c.in-Some.is c.read_fields.ensures in rw (← w.ends, ne_eqb _ _ c.if-f-s.true)

-- The map ends where the bytes do: the check, by the command that the walk's judgement makes. It makes none,
pub returns-in_err-command : goal.returns-in_err-command
returns-in_err-command c =
    let w = walked-to _ _ _ _ _ _ _ c.in-Some.is c.read_fields.ensures in
    err-is _ _ c.from_residual.ensures.1 ∙ sym (map_whole _ _ _ _ _ _ w (omega arith) ∙ rw (← c.command_of.ensures, c.in_err-command.was))

-- or one, but there are too many keys, or the outer map's keys were searched
pub returns-then-n-gt3 : goal.returns-then-n-gt3
returns-then-n-gt3 c =
    let w = walked-to _ _ _ _ _ _ _ c.in-Some.is c.read_fields.ensures in
    let outer = entries c.args.s.now 7 c.args.n c.args.at in
    let four : 3 < c.args.n → twice (contents c.args.s.now outer) ≡ true = λ h.
    let j = is-judged _ _ (sym c.command_of.ensures ∙ c.in_ok-command.was) in
    too_many _ _ _ _ j.0 (sym w.ends) (sym w.all ∙ j.1) h in
    let t : twice (contents c.args.s.now outer) ≡ true = elim c.then-n-gt3.branch [
      | then-n-gt3-via-then-n-gt3 k ↦ four k.if-n-gt3.true
      | then-n-gt3-via-else-n-gt3+then-row_double k ↦ sym (row-answers _ _ _ _ _ w.same) ∙ sym k.row_double.ensures ∙ k.if-row_double.true
    ] in
    sym (map_whole _ _ _ _ _ _ w (omega arith) ∙ rw (← c.command_of.ensures, t, c.in_ok-command.was))

pub returns : goal.returns
returns c =
    let w = walked-to _ _ _ _ _ _ _ c.in-Some.is c.read_fields.ensures in
    let t = sym (row-answers _ _ _ _ _ w.same) ∙ sym c.row_double.ensures ∙ c.if-row_double.false in
    sym (map_whole _ _ _ _ _ _ w (omega arith) ∙ rw (← c.command_of.ensures, t) (still-single _) ∙ c.in_ok-command.was)
