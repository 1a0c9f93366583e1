-- `sender::frames::Frames::put` meets its contract: each turn of the loop puts a full frame, and the last goes behind them.
-- Assumes nothing.
use Rattle.std.proofs.Common.{◌≡◌, ℕ, ◌+◌, ◌-◌, ◌*◌, ◌≤◌, ◌<◌, eqb, true, false, List, length, take, drop, sym, ap, ◌∙◌, arith, length-drop}
use native.Mathlib.Nat.{add-mul}
use borrow.Author.Tests.{ne_eqb}
use lib.Seq.{take_all}
use Rattle.buffer.specs.Bytes.{write}
use Rattle.frame.specs.Frame.{frame_bytes}
use Rattle.sender.specs.declared.frames.Frames.{Frames}
use Rattle.sender.specs.Steps.{frame_for}
use Rattle.sender.proofs.FrameLaws.{made_long, Going, frame-fits, goes_on, last_fits, ended}
use Rattle.sender.proofs.frames.Frames.put.Goals as goal

-- the bytes of a full frame are taken from p up to p + size
cut : (p size : ℕ) → p + size - p ≡ size
cut p size = omega arith

-- what is left of the bytes past the loop
all_left : (p : ℕ) (bytes : List ℕ) → take (length bytes - p) (drop p bytes) ≡ drop p bytes
all_left p bytes = take_all (length bytes - p) (drop p bytes) (omega (arith, length-drop p bytes))

module _ (r : Frames) (bytes all out₀ : List ℕ) (at full : ℕ) (out : List ℕ) (q i : ℕ)
    (g : Going (frame_for r) r.how.size bytes all out₀ at out q (i * r.how.size) (full - i) (eqb i 0)) where
  -- a turn of the loop: the full frame that it puts
  module _ (h : i < full) where
    more : 0 < full - i
    more = omega arith

    abbrev piece : List ℕ
    piece = take r.how.size (drop (i * r.how.size) bytes)

    fits : at + length all ≤ length out₀ → q + (length piece + 8) ≤ length out
    fits m = omega (arith, frame-fits _ _ _ _ _ _ _ _ _ _ _ g more, made_long r (eqb i 0) false piece, g.same)

    again : (out' : List ℕ) (n : ℕ) → n ≡ length piece + 8 → out' ≡ write out q (frame_bytes (frame_for r (eqb i 0) false piece))
        → Going (frame_for r) r.how.size bytes all out₀ at out' (q + n) ((i + 1) * r.how.size) (full - (i + 1)) (eqb (i + 1) 0)
    again out' n e f =
        let place : (i + 1) * r.how.size ≡ i * r.how.size + r.how.size = omega (arith, add-mul i 1 r.how.size) in
        let fewer : full - (i + 1) ≡ full - i - 1 = omega arith in
        let later : eqb (i + 1) 0 ≡ false = ne_eqb (i + 1) 0 (λ z. omega arith) in
        rw (place, fewer, later) (goes_on _ _ _ _ _ _ _ _ _ _ _ g more out' n f (e ∙ made_long r (eqb i 0) false piece))

  -- past the loop: the last frame ends them
  module _ (z : i ≡ full) where
    none : full - i ≡ 0
    none = omega arith

    ends : q + (length (drop (full * r.how.size) bytes) + 8) ≡ at + length all
    ends = rw (← z) (omega (arith, last_fits _ _ _ _ _ _ _ _ _ _ _ g none, made_long r (eqb i 0) true (drop (i * r.how.size) bytes)))

    puts : write out₀ at all ≡ write out q (frame_bytes (frame_for r (eqb full 0) true (drop (full * r.how.size) bytes)))
    puts = rw (← z) (ended _ _ _ _ _ _ _ _ _ _ _ g none)

pub put_frame-q-requires : goal.put_frame-q-requires
put_frame-q-requires c =
    let a = c.args in
    let l = c.loop-i in
    rw (cut (l.i * a.self.how.size) a.self.how.size) (fits a.self _ _ _ _ a.full _ _ l.i l.invariant c.loop-i-test.true c.requires.1)

pub overflow_add-q : goal.overflow_add-q
overflow_add-q c =
    let a = c.args in
    let l = c.loop-i in
    let here = fits a.self _ _ _ _ a.full _ _ l.i l.invariant c.loop-i-test.true c.requires.1 in
    record { fits = omega (arith, here, rw (cut (l.i * a.self.how.size) a.self.how.size) at c.put_frame-q.ensures.0) }

pub loop-i-preserved : goal.loop-i-preserved
loop-i-preserved c =
    let a = c.args in
    let l = c.loop-i in
    let e = cut (l.i * a.self.how.size) a.self.how.size in
    again a.self _ _ _ _ a.full _ _ l.i l.invariant c.loop-i-test.true _ _ (rw e at c.put_frame-q.ensures.0) (rw e at c.put_frame-q.ensures.1)

pub put_frame-requires : goal.put_frame-requires
put_frame-requires c =
    let a = c.args in
    let l = c.loop-i in
    let z : l.i ≡ a.full = omega arith in
    rw (all_left (a.full * a.self.how.size) a.bytes.now) (omega (arith, ends a.self _ _ _ _ a.full _ _ l.i l.invariant z, c.requires.1, l.invariant.same))

pub overflow_add-result : goal.overflow_add-result
overflow_add-result c =
    let a = c.args in
    let l = c.loop-i in
    let z : l.i ≡ a.full = omega arith in
    record { fits = omega (arith, ends a.self _ _ _ _ a.full _ _ l.i l.invariant z, rw (all_left (a.full * a.self.how.size) a.bytes.now) at c.put_frame.ensures.0, c.requires.1) }

pub returns : goal.returns
returns c =
    let a = c.args in
    let l = c.loop-i in
    let z : l.i ≡ a.full = omega arith in
    let rest = all_left (a.full * a.self.how.size) a.bytes.now in (
      ap (λ (n : ℕ). l.q + n) (rw rest at c.put_frame.ensures.0) ∙ ends a.self _ _ _ _ a.full _ _ l.i l.invariant z,
      rw rest at c.put_frame.ensures.1 ∙ sym (puts a.self _ _ _ _ a.full _ _ l.i l.invariant z),
    )
