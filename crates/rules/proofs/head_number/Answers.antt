-- `rules::head_number` meets its contract: its table is that of the rules.
-- Assumes nothing.
use Rattle.std.proofs.Common.{ap, sym, ◌∙◌, []}
use Rattle.frame.specs.Frame.{framed, is_even, is_type}
use Rattle.requests.proofs.PhaseLaws.{same_is}
use Rattle.rules.specs.Rules.{rules, is_command}
use Rattle.rules.specs.Stages.{broken_of, viewed, head_rules}
use Rattle.rules.proofs.RuleLaws.{table-first, rules-first}
use Rattle.rules.proofs.head_number.Goals as goal

pub returns : goal.returns
unfolding rules is_even is_type is_command
returns c =
    ap broken_of c.judge.ensures ∙ table-first _
    ∙ rw (
      c.is_long.ensures,
      c.data_follows.ensures,
      c.flags_fit.ensures,
      c.is_new-2.ensures,
      c.is_new.ensures,
      c.begins-begins.ensures,
      c.eq-collects.ensures,
      c.eq-free.ensures,
      same_is,
      same_is,
    )
    (sym (rules-first (framed c.args.h []) (viewed c.args.m c.args.h []) head_rules))
