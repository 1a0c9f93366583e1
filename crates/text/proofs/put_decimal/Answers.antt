-- `text::put_decimal` meets its contract: the part of the local array that is put holds the number's digits and no more.
-- Assumes nothing.
use Rattle.std.proofs.Common.{◌-◌, ◌≤◌, length, ap, arith, length-drop}
use lib.Seq.{take_all}
use Rattle.text.specs.Text.{decimal_of}
use Rattle.text.proofs.put_decimal.Goals as goal

pub returns : goal.returns
returns c =
    let s = c.spell-start in
    let b = c.put.ensures in
    let size : length (decimal_of c.args.n) ≤ 20 - s.result = omega (arith, ap length s.ensures.1, length-drop s.result s.new.digits) in
    rw (s.ensures.1, take_all (20 - s.result) (decimal_of c.args.n) size) at b
