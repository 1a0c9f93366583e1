-- `log_compare::Partial::head_at` meets its contract: the array of six places holds the head, if it is whole.
-- Assumes nothing.
use Rattle.std.proofs.Common.{◌≡◌, ◌-◌, ◌%◌, ◌≤◌, ◌++◌, length, arith, le-leb, length-append}
use borrow.Author.Tests.{lt-leb}
use Rattle.log_compare.specs.Partial.{head_in, head_of, under_way}
use Rattle.log_compare.proofs.Held.{count, array_claims, array-byte}
use Rattle.log_compare.proofs.Partial.head_at.Goals as goal

pub returns-then-bytes-missing : goal.returns-then-bytes-missing
unfolding head_in
returns-then-bytes-missing c =
    let held = (under_way c.args.self).head in
    let bytes = c.args.bytes.now in
    rw (lt-leb 6 (length (held ++ bytes)) (omega (arith, length-append held bytes)))

pub returns : goal.returns
unfolding head_in head_of
returns c =
    let six : length c.args.self.head ≡ 6 = omega arith in
    let p = c.args.self in
    let held = (under_way p).head in
    let bytes = c.args.bytes.now in
    let l : 6 - p.held % 6 ≤ length bytes = omega (arith, count p six) in
    let byte = array-byte p six bytes l in
    let long : 6 ≤ length (held ++ bytes) = omega (arith, length-append held bytes, count p six) in
    rw (c.body_length.ensures, c.joined-head.ensures, array_claims p six bytes l, byte 4 (omega arith), byte 5 (omega arith), le-leb 6 (length (held ++ bytes)) long)
