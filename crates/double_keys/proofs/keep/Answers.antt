-- `double_keys::keep` meets its contract, by what was read and the tests for room.
-- Assumes nothing.
use borrow.Author.Tests.{lt-ltb, le-ltb, le-leb, lt-leb}
use Rattle.std.proofs.Common.{rules}
use Rattle.double_keys.proofs.RowLaws.{no_room, room}
use Rattle.double_keys.proofs.keep.Goals as goal

pub returns-then-starts-k : goal.returns-then-starts-k
returns-then-starts-k c = no_room _ _ _ _ c.in-Some-Keyed.start c.in-Some-Keyed.stop c.in-Some-Keyed.field-0-2 (search rules) (rw (le-ltb _ _ c.if-starts-k.true))

pub returns-then-stops-k : goal.returns-then-stops-k
returns-then-stops-k c =
    no_room _ _ _ _ c.in-Some-Keyed.start c.in-Some-Keyed.stop c.in-Some-Keyed.field-0-2 (search rules) (rw (lt-ltb _ _ c.if-starts-k.false, le-ltb _ _ c.if-stops-k.true))

pub returns-then-start-gt65535 : goal.returns-then-start-gt65535
returns-then-start-gt65535 c =
    no_room _ _ _ _ c.in-Some-Keyed.start c.in-Some-Keyed.stop c.in-Some-Keyed.field-0-2 (search rules) (rw (lt-ltb _ _ c.if-starts-k.false, lt-ltb _ _ c.if-stops-k.false, lt-leb _ _ c.if-start-gt65535.true))

pub returns-then-stop-gt65535 : goal.returns-then-stop-gt65535
returns-then-stop-gt65535 c =
    no_room _ _ _ _ c.in-Some-Keyed.start c.in-Some-Keyed.stop c.in-Some-Keyed.field-0-2 (search rules)
    (rw (lt-ltb _ _ c.if-starts-k.false, lt-ltb _ _ c.if-stops-k.false, le-leb _ _ c.if-start-gt65535.false, lt-leb _ _ c.if-stop-gt65535.true))

pub returns : goal.returns
returns c =
    room _ _ _ _ c.in-Some-Keyed.start c.in-Some-Keyed.stop c.in-Some-Keyed.field-0-2 (search rules)
    (rw (lt-ltb _ _ c.if-starts-k.false, lt-ltb _ _ c.if-stops-k.false, le-leb _ _ c.if-start-gt65535.false, le-leb _ _ c.if-stop-gt65535.false))
