-- `files::Unread::words`: the row of a case in the table has its words. Assumes nothing.
use Rattle.files.proofs.Reasons.{row_is}
use Rattle.files.proofs.unread.Unread.words.Goals as goal

pub returns : goal.returns
returns c = row_is _ _ _ c.row.ensures c.row_of.ensures
