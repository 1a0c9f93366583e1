-- What is written of a `files::Unread`: its words are UTF-8. Assumes nothing.
use Rattle.std.proofs.Common.{rules}
use Rattle.files.proofs.Reasons.{words_utf8}
use Rattle.files.proofs.unread.UnreadDisplay.fmt.Goals as goal

pub unwrap-requires : goal.unwrap-requires
unwrap-requires g c = let u = words_utf8 c.args.self.now in search rules
