-- `double_keys::mark_keys` meets its contract. The loop's invariant: the first i keys have their marks, and each mark is counted.
-- Assumes nothing.
use mathlib.Core.Path.{◌≡◌, ◌∙◌}
use mathlib.Core.List.{List}
use Prim.Native.Nat.{ℕ, ◌+◌, ◌<◌, ◌%◌}
use native.Mathlib.Nat.{mod-lt}
use Rattle.std.proofs.Common.{arith}
use lib.ListN.{length, set, length-set}
use Rattle.double_keys.specs.Search.{hash, key_of}
use Rattle.double_keys.proofs.Marks.{Counted, Raised, raised_none, raised_one, counted-more, marked}
use Rattle.double_keys.proofs.rows.Row.mark_keys.Goals as goal

-- the mark of a key, by the key's number
is-mark : (size h : ℕ) (k k' : List ℕ) → h ≡ hash k → k ≡ k' → h % size ≡ hash k' % size
is-mark size h k k' e f = rw (e, f)

-- a key more, once its mark is counted
module _ (s starts stops counts₀ row₀ counts counts' row : List ℕ) {i mark : ℕ} (f : length counts ≡ length counts₀) (g : length row ≡ length row₀) (c : Counted s starts stops counts row i) (w : i < length row) (e : mark ≡ hash (key_of s starts stops i) % length counts) (r : Raised counts counts' mark) where
  turn : (length counts' ≡ length counts₀) × (length (set row i mark) ≡ length row₀) × Counted s starts stops counts' (set row i mark) (i + 1)
  turn = (r.long ∙ f, length-set row i mark ∙ g, counted-more s starts stops counts counts' row i mark c r w e)

pub loop-i-preserved : goal.loop-i-preserved
loop-i-preserved c =
    let l = c.loop-i in
    let mark = c.key_hash.result % length l.counts in
    let in_counts : mark < length l.counts = mod-lt c.key_hash.result (omega (arith, l.invariant.0, c.requires.1)) in
    let in_row : l.i < length l.row = omega (arith, l.invariant.1, c.requires.0) in
    turn _ _ _ _ _ _ _ _ l.invariant.0 l.invariant.1 l.invariant.2 in_row (is-mark (length l.counts) _ _ _ c.key_hash.ensures c.key_at.ensures)
    (grind (arith, raised_one l.counts mark in_counts, raised_none l.counts mark))

pub returns : goal.returns
returns c =
    let e : c.loop-i.i ≡ c.args.self.n = omega arith in
    marked _ _ _ c.args.self.n _ _ (omega (arith, c.loop-i.invariant.0, c.requires.1)) (rw e at c.loop-i.invariant.2)
