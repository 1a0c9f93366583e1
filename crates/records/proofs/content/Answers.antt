-- `records::content` meets its contract: the part up to the end is all that is left.
-- Assumes nothing.
use Rattle.std.proofs.Common.{◌-◌, length, drop, ◌∙◌, arith, length-drop}
use lib.Seq.{take_all}
use Rattle.keys.specs.Keys.{part}
use Rattle.records.proofs.content.Goals as goal

pub returns : goal.returns
unfolding part
returns c =
    let s = c.args.bytes.now in
    c.part.ensures ∙ take_all (length s - 9) (drop 9 s) (omega (arith, length-drop 9 s))
