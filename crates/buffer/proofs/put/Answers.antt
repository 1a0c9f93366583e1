-- `buffer::put` meets its contract: as many bytes as there is room for are put, one behind the other.
-- Assumes nothing.
use Rattle.std.proofs.Common.{◌≡◌, ℕ, ◌+◌, ◌-◌, min, refl, ◌≤◌, ◌<◌, List, [], ◌∷◌, length, take, drop, get_or, sym, ap, ◌∙◌, arith, add-one}
use mathlib.Core.Bool.{Bool, true, false}
use lib.Dec.{ltb}
use borrow.Author.Tests.{ltb-true, ltb-false}
use lib.ListN.{set, take-append-drop}
use lib.Seq.{length-take-le, take_all, take-suc}
use Rattle.buffer.specs.Bytes.{write}
use Rattle.buffer.proofs.WriteLaws.{write-out, set-write, write-twice, write-past, write-none}
use Rattle.buffer.proofs.put.Goals as goal

pub returns-then-buffer-at : goal.returns-then-buffer-at
returns-then-buffer-at c = sym (write-out _ _ _ c.if-buffer-at.true)

-- one byte more
one-more : (w s : List ℕ) (at i : ℕ) → i < length s → set (write w at (take i s)) (at + i) (get_or s i 0) ≡ write w at (take (i + 1) s)
one-more w s at i h =
    let l : length (take i s) ≡ i = length-take-le i s (omega arith) in
    set-write (write w at (take i s)) (at + i) (get_or s i 0)
    ∙ rw l at (write-twice w at (take i s) (get_or s i 0 ∷ []))
    ∙ ap (write w at) (sym (rw add-one (take-suc s i 0 h)))

-- as many as there are, or as there is room for
all-put : (w s : List ℕ) (at n : ℕ) → n ≡ min (length s) (length w - at) → write w at (take n s) ≡ write w at s
all-put w s at n h = by (ltb (length w - at) (length s)) refl
  where
    by : (b : Bool) → ltb (length w - at) (length s) ≡ b → write w at (take n s) ≡ write w at s
    by true e =
        let l = ltb-true _ _ e in
        let k : length (take n s) ≡ n = length-take-le n s (omega arith) in
        let full : length w ≤ at + length (take n s) = omega arith in
        sym (write-past w at (take n s) (drop n s) full) ∙ ap (write w at) (take-append-drop n s)
    by false e = let l = ltb-false _ _ e in ap (write w at) (take_all n s (omega arith))

pub loop-i-init : goal.loop-i-init
loop-i-init c = sym (write-none _ _)

pub loop-i-preserved : goal.loop-i-preserved
loop-i-preserved c =
    let more : c.loop-i.i < length c.args.bytes.now = omega arith in
    rw c.loop-i.invariant (one-more c.args.buffer.now c.args.bytes.now c.args.at c.loop-i.i more)

pub returns : goal.returns
returns c =
    let n : c.loop-i.i ≡ c.min-n.result = omega arith in
    c.loop-i.invariant ∙ rw n (all-put c.args.buffer.now c.args.bytes.now c.args.at c.min-n.result c.min-n.ensures)
