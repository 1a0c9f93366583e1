-- `rules::last_number` meets its contract: its table is that of the rules.
-- Assumes nothing.
use Rattle.std.proofs.Common.{ap, sym, ◌∙◌, []}
use Rattle.frame.specs.Frame.{framed, is_type, begins}
use Rattle.rules.specs.Rules.{rules}
use Rattle.rules.specs.Stages.{broken_of, viewed, last_rules}
use Rattle.rules.proofs.RuleLaws.{table-first, rules-first}
use Rattle.rules.proofs.last_number.Goals as goal

pub returns : goal.returns
unfolding rules is_type begins
returns c =
    ap broken_of c.judge.ensures ∙ table-first _
    ∙ rw (c.is_unread.ensures, c.begins.ensures, c.takes_data.ensures)
    (sym (rules-first (framed c.args.h c.args.payload.now) (viewed c.args.m c.args.h []) last_rules))
