-- `channel::place` meets its contract: the payload is copied out of the work area, and then behind what the slot's part holds.
-- Assumes nothing.
use Prim.Native.Nat.{ℕ, ◌+◌, ◌-◌, ◌≤◌, ◌<◌}
use mathlib.Core.Path.{◌≡◌, sym}
use mathlib.Core.List.{List}
use native.Mathlib.Omega.{arith}
use lib.ListN.{length, take, drop, replicate, length-drop, length-replicate}
use lib.Seq.{length-take-le}
use borrow.Rule.Slice.PartMut.{mid_of, put_mid}
use Rattle.buffer.specs.Bytes.{write}
use Rattle.buffer.proofs.WriteLaws.{write_mid, take-front}
use Rattle.frame.specs.Limits.{max_command, slot_count, work_area, part_start}
use Rattle.channel.proofs.place.Goals as goal

-- the payload's copy z becomes p, and the slot's part, of size bytes, becomes part
placed : (w z p part : List ℕ) (slot held n size : ℕ) → work_area ≤ length w → slot < slot_count → held + n ≤ max_command → length z ≡ max_command → size ≡ max_command
    → p ≡ write z 0 (take (8 + n - 8) (drop 8 w)) → part ≡ write (mid_of (part_start slot) size w) held (take n p)
    → put_mid (part_start slot) size w part ≡ write w (part_start slot + held) (take n (drop 8 w))
placed w z p part slot held n size h l k zs e p-is part-is =
    let m : 8 + n - 8 ≡ n = omega arith in
    let payload : length (take n (drop 8 w)) ≡ n = length-take-le n (drop 8 w) (omega (arith, length-drop 8 w)) in
    let front : take n p ≡ take n (drop 8 w) = rw (p-is, m) (rw payload at (take-front z (take n (drop 8 w)) (omega arith))) in
    rw (part-is, front, e) (write_mid w (part_start slot) max_command held (take n (drop 8 w)) (omega arith) (omega arith))

pub slice_bounds-put-end-4 : goal.slice_bounds-put-end-4
slice_bounds-put-end-4 c = sym (length-take-le c.args.n c.put.new.buffer (omega (arith, c.put.auto.buffer)))

pub returns : goal.returns
returns c =
    let a = c.args in
    let size : part_start a.slot + max_command - part_start a.slot ≡ max_command = omega arith in
    placed a.work.now (replicate max_command 0) c.put.new.buffer c.put-2.new.buffer a.slot a.held a.n _ (omega arith) (omega arith) (omega arith) (length-replicate {A = ℕ} max_command 0) size c.put.ensures c.put-2.ensures
