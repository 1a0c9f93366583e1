-- `convert::input::convert_front`: the whole records in front are a whole log, the output is long enough for its new form, and less is left
-- than a record can have. Assumes nothing.
use Rattle.std.proofs.Common.{arith, length-take}
use Rattle.fields.specs.Laws.{AreBytes}
use Rattle.logs.specs.Laws.{at_once}
use Rattle.logs.proofs.Pieces.{held-short, whole-within}
use Rattle.convert.proofs.Fronts.{accepted, writes}
use Rattle.convert.proofs.input.convert_front.Goals as goal

pub slice_bounds-convert-end : goal.slice_bounds-convert-end
slice_bounds-convert-end c = omega (arith, length-take c.whole-taken.result c.args.bytes.now, whole-within 2 c.args.bytes.now)

pub unwrap-written-requires : goal.unwrap-written-requires
unwrap-written-requires c = accepted _ _ _ c.whole-taken.ensures (omega arith) c.requires _ _ c.convert.ensures

pub returns : goal.returns
unfolding at_once
returns c =
    let s = c.args.bytes.now in
    let bytes : AreBytes s = record { byte = λ i. omega (arith, c.type_inv.bytes i) } in
    let e = c.whole-taken.ensures in
    let w = writes _ _ _ e (omega arith) c.requires _ _ c.convert.ensures _ c.unwrap-written.ensures in
    record {
      front = record { taken = e; written = w.1; left = rw e (omega (arith, held-short 2 s bytes)) };
      within = (omega (arith, whole-within 2 s), omega (arith, w.0));
    }
