-- `logdiff::lines::put_fault`: the log's number stands behind the word. Assumes nothing.
use Rattle.logdiff.specs.Lines.{fault_of}
use Rattle.text.proofs.Texts.{behind}
use Rattle.logdiff.proofs.lines.put_fault.Goals as goal

pub returns : goal.returns
unfolding fault_of
returns g c = behind _ _ _ _ c.put.ensures c.put_spaced.ensures
