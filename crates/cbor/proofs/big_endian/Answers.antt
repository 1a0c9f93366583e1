-- Each byte makes the number 256 times itself and that byte, which is below 256 ^ (i + 1).
use Rattle.std.proofs.Common.{◌≡◌, ℕ, ◌+◌, ◌*◌, ◌<◌, ◌≤◌, ◌^◌, List, refl, arith}
use Rattle.cbor.specs.Cbor.{big_endian}
use Rattle.cbor.proofs.Width.{grows, fits, more}
use Rattle.cbor.proofs.big_endian.Goals as goal

none : (s : List ℕ) (at : ℕ) → 0 ≡ big_endian s at 0
unfolding big_endian
none s at = refl

-- the number with one more byte still fits
room : (i w v b : ℕ) → i < w → w ≤ 8 → v < 256 ^ i → b < 256 → v * 256 + b < 2 ^ 64
room i w v b h k l m = omega (arith, fits {n = i + 1} (omega arith), grows i v b l m)

pub loop-i-init : goal.loop-i-init
loop-i-init c = (none _ _, omega arith)

pub overflow_mul-v : goal.overflow_mul-v
overflow_mul-v c = omega (arith, room c.loop-i.i c.args.w c.loop-i.v 0 (omega arith) (omega arith) c.loop-i.invariant.1 (omega arith))

pub overflow_add-v : goal.overflow_add-v
overflow_add-v c = omega (arith, room c.loop-i.i c.args.w c.loop-i.v c.from.result (omega arith) (omega arith) c.loop-i.invariant.1 (omega (arith, c.type_inv.s (c.args.at + c.loop-i.i))))

pub loop-i-preserved : goal.loop-i-preserved
loop-i-preserved c = (
  omega (arith, more c.args.s.now c.args.at c.loop-i.i),
  grows c.loop-i.i _ _ c.loop-i.invariant.1 (omega (arith, c.type_inv.s (c.args.at + c.loop-i.i))),
)
