-- What is proved of logs beside the contracts, each claim under its name: of reading in proofs/Joined.antt, of the converter in
-- proofs/Alike.antt, how far a log grows and of one that comes in pieces in proofs/Pieces.antt.
-- These are definitions: they assume nothing.
use Rattle.std.specs.Prelude.{ℕ, ◌+◌, ◌*◌, ◌/◌, ◌%◌, ◌^◌, ◌≤◌, ◌<◌, ◌≡◌, true, List, [], ◌∷◌, ◌++◌, length, take, drop}
use Rattle.frame.specs.Records.{record_of}
use Rattle.fields.specs.Laws.{AreBytes, AllFit}
use Rattle.buffer.specs.Answers.{Answer}
use Rattle.logs.specs.Logs.{Stored, stored_bytes, log_of, records, whole_length, is_whole, whole, read_log}
use Rattle.logs.specs.Convert.{wider, convert_of}

-- ---- reading, whatever the width

-- a whole log of bytes is the join of its records' bytes
abbrev pub Joined : Type 0
Joined = (w : ℕ) (s : List ℕ) → AreBytes s → is_whole w s ≡ true → log_of w (records w s) ≡ s

-- the join of records reads as those records, where each body's length fits its field
abbrev pub ShortBody : ℕ → Stored → Type 0
ShortBody w r = length r.body < 256 ^ w

abbrev pub ReadBack : Type 0
ReadBack = (w : ℕ) (rs : List Stored) → AllFit (ShortBody w) rs → read_log w (log_of w rs) ≡ whole rs

-- what feed writes is a record of a log with width 4
abbrev pub FeedWrites : Type 0
FeedWrites = (kind : ℕ) (body : List ℕ) → record_of kind body ≡ stored_bytes 4 (record { low = kind % 256; high = kind / 256 % 256; body = body })

-- ---- E7's theorem: a converted log has the old log's kinds and bodies, in order; it is two bytes longer for each, and never broken

pub record Alike (log : List ℕ) (a : Answer) : Type 0 where
  pub old : read_log 2 log ≡ whole (records 2 log)
  pub new : read_log 4 (take a.written a.output) ≡ whole (records 2 log)
  pub total : a.written ≡ length log + 2 * length (records 2 log)

abbrev pub ReadsAlike : Type 0
ReadsAlike = (log out : List ℕ) → AreBytes log → (convert_of log out).number ≡ 0 → Alike log (convert_of log out)

-- a log grows by at most a half, for each record has at least four bytes
abbrev pub GrowsByHalf : Type 0
GrowsByHalf = (log : List ℕ) → 2 * length (wider log) ≤ 3 * length log

-- ---- a log that comes in pieces: the whole records of what is held and the next piece are rewritten, and the rest is held

pub record Run : Type 0 where
  pub written : List ℕ
  pub passed : ℕ
  pub held : List ℕ

-- what a log comes to, in one piece
unfoldable pub at_once : List ℕ → Run
at_once s = record { written = wider s; passed = whole_length 2 s; held = drop (whole_length 2 s) s }

unfoldable pub behind : Run → Run → Run
behind r t = record { written = r.written ++ t.written; passed = r.passed + t.passed; held = t.held }

unfoldable pub in_pieces : List ℕ → List (List ℕ) → Run
in_pieces held [] = record { written = []; passed = 0; held = held }
in_pieces held (p ∷ ps) = behind (at_once (held ++ p)) (in_pieces (at_once (held ++ p)).held ps)

unfoldable pub joined : List (List ℕ) → List ℕ
joined [] = []
joined (p ∷ ps) = p ++ joined ps

-- however it is cut, it comes to the same
abbrev pub AnyPieces : Type 0
AnyPieces = (ps : List (List ℕ)) → in_pieces [] ps ≡ at_once (joined ps)

-- and less is held than a record can have
abbrev pub HeldShort : Type 0
HeldShort = (w : ℕ) (s : List ℕ) → AreBytes s → length (drop (whole_length w s) s) < w + 2 + 256 ^ w
