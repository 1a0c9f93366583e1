-- `double_keys::block_double` meets its contract: the row lists every key of the block and, where the search finds none twice, has them in
-- order. Assumes nothing.
use Rattle.std.proofs.Common.{◌∙◌, arith}
use Rattle.double_keys.specs.Blocks.{block_double}
use Rattle.double_keys.proofs.Shared.{all_listed, in_order, none-twice}
use Rattle.double_keys.proofs.blocks.block_double.Goals as goal

pub search-requires : goal.search-requires
search-requires c = all_listed c.list_all.ensures (omega (arith, c.list_all.ensures.long, c.requires.1))

pub one_stands-requires-clause-in_order : goal.one_stands-requires-clause-in_order
one_stands-requires-clause-in_order c =
    in_order c.list_all.ensures _ _ _ c.requires.0 (rw c.if-search.false at c.search.ensures) (omega (arith, c.list_all.ensures.long, c.requires.1)) (omega arith)

pub returns-then-search : goal.returns-then-search
unfolding block_double
returns-then-search c = c.if-search.true ∙ rw (c.search.ensures.double c.if-search.true)

pub returns-else-search : goal.returns-else-search
unfolding block_double
returns-else-search c =
    c.one_stands.ensures ∙ rw (none-twice c.list_all.ensures _ _ _ c.requires.0 (rw c.if-search.false at c.search.ensures))
