-- `cbor::put_head` meets its contract: the first byte, then those that follow it.
-- Assumes nothing.
use Prim.Native.Nat.{ℕ, ◌+◌, ◌*◌, ◌%◌, ◌≤◌, ◌<◌}
use mathlib.Core.Path.{◌≡◌, sym, ◌∙◌}
use mathlib.Core.List.{List, [], ◌∷◌}
use Rattle.std.proofs.Common.{arith}
use lib.ListN.{length}
use Rattle.cbor.specs.Cbor.{width, shortest}
use Rattle.cbor.specs.Heads.{big_bytes, head_bytes}
use Rattle.cbor.proofs.HeadLaws.{length-head, shortest_narrow}
use Rattle.buffer.specs.Bytes.{write}
use Rattle.buffer.proofs.WriteLaws.{write-out, write-twice}
use Rattle.cbor.proofs.put_head.Goals as goal

below : (info n : ℕ) → info ≡ shortest n → info < 28
below info n h = rw h (shortest_narrow n).unreserved

module _ (major n info w : ℕ) (h : info ≡ shortest n) (k : w ≡ width info) where
  narrow : w ≤ 8
  narrow = rw (k, h) (shortest_narrow n).most

  size : w + 1 ≡ length (head_bytes major n)
  size = rw (length-head, ← h, ← k) (omega arith)

  in_two : (out : List ℕ) (at : ℕ) → write (write out at ((major * 32 + info) ∷ [])) (at + 1) (big_bytes w n) ≡ write out at (head_bytes major n)
  unfolding head_bytes
  in_two out at = rw (k, h) (write-twice out at ((major * 32 + shortest n) ∷ []) (big_bytes (width (shortest n)) n))

pub width_of-width-requires : goal.width_of-width-requires
width_of-width-requires c = below _ _ c.shortest-info.ensures

pub overflow_add-result : goal.overflow_add-result
overflow_add-result c = omega (arith, narrow 0 _ _ _ c.shortest-info.ensures c.width_of-width.ensures)

pub returns-then-out-at : goal.returns-then-out-at
returns-then-out-at c = (size _ _ _ _ c.shortest-info.ensures c.width_of-width.ensures, sym (write-out _ _ _ c.if-out-at.true))

pub overflow_add-first : goal.overflow_add-first
overflow_add-first c = omega (arith, below _ _ c.shortest-info.ensures)

pub put_big-requires : goal.put_big-requires
put_big-requires c = narrow 0 _ _ _ c.shortest-info.ensures c.width_of-width.ensures

pub overflow_add-result-2 : goal.overflow_add-result-2
overflow_add-result-2 c =
    omega (arith, narrow 0 _ _ _ c.shortest-info.ensures c.width_of-width.ensures)

pub returns : goal.returns
returns c =
    let a = c.args in (
      size (a.major % 8) a.n _ _ c.shortest-info.ensures c.width_of-width.ensures,
      c.put_big.ensures ∙ rw c.put.ensures (in_two (a.major % 8) a.n _ _ c.shortest-info.ensures c.width_of-width.ensures a.out.now a.at),
    )
