-- `logdiff::lines::put_record`: the parts of the line follow one another. Assumes nothing.
use Rattle.logdiff.specs.Lines.{record_of}
use Rattle.text.proofs.Texts.{behind}
use Rattle.logdiff.proofs.lines.put_record.Goals as goal

pub returns : goal.returns
unfolding record_of
returns g c =
    let two = behind _ _ _ _ c.put_decimal.ensures c.put_length.ensures in
    behind _ _ _ _ (behind _ _ _ _ two c.put_length-2.ensures) c.put.ensures
