-- `text::put_hex` meets its contract: each byte puts its two digits, and where the loop ends nothing is left, or half a byte.
-- Assumes nothing.
use Rattle.std.proofs.Common.{◌≡◌, ℕ, suc, ◌+◌, ◌-◌, ◌*◌, ◌/◌, ◌%◌, ◌≤◌, ◌<◌, min, List, [], ◌∷◌, length, take, drop, set, get_or, sym, ◌∙◌, add-one, arith, drop-cons}
use lib.ListN.{length-set, length-take, drop_of_length-le}
use Rattle.std.proofs.lemmas.List.{get_or-take}
use Rattle.buffer.specs.Bytes.{write}
use Rattle.buffer.proofs.WriteLaws.{write-none, write-set, write-past}
use Rattle.text.specs.Text.{glyph_of, hex_of}
use Rattle.text.proofs.Texts.{hex_length}
use Rattle.text.proofs.put_hex.Goals as goal

module _ (out : List ℕ) (p : ℕ) (s : List ℕ) (i : ℕ) (h : i < length s) where
  -- one byte more
  step : write out p (hex_of (drop i s)) ≡ write (set (set out p (glyph_of (get_or s i 0 / 16))) (p + 1) (glyph_of (get_or s i 0 % 16))) (p + 2) (hex_of (drop (i + 1) s))
  unfolding hex_of
  step = let e : p + 2 ≡ suc (suc p) = omega arith in rw (e, add-one p, add-one i, drop-cons s i 0 h) (write-set out p _ _ ∙ write-set _ (suc p) _ _)

  -- a byte's first digit, and no room for more
  tail : length out ≤ p + 1 → write out p (hex_of (drop i s)) ≡ write out p (glyph_of (get_or s i 0 / 16) ∷ [])
  unfolding hex_of
  tail k = rw (drop-cons s i 0 h) (write-past out p (_ ∷ []) _ k)

cut : (at size n i p : ℕ) → i ≡ (n - at) / 2 → i < size → p ≡ at + 2 * i → p + min 1 (n - p) ≡ at + min (2 * size) (n - at)
cut at size n i p e h k = omega arith

-- a place of the first k bytes
inside : (k i : ℕ) (s : List ℕ) → i < length (take k s) → i < k
inside k i s h = omega (arith, length-take k s)

pub loop-b-preserved : goal.loop-b-preserved
loop-b-preserved c =
    let l = c.loop-b in
    let s = c.args.bytes.now in
    let i = l.b-index in
    let byte : get_or (take c.min-n.result s) i 0 ≡ get_or s i 0 = get_or-take c.min-n.result s i 0 (inside c.min-n.result i s (omega arith)) in
    let high = rw byte at c.glyph.ensures in
    let low = rw byte at c.glyph-in-loop-b.ensures in
    (omega (arith, l.invariant.0), simp length-set l.invariant.1, l.invariant.2 ∙ rw (low, high) (step l.out l.p s i (omega (arith, length-take c.min-n.result s))))

pub returns-then-n-bytes : goal.returns-then-n-bytes
returns-then-n-bytes c =
    let b = c.put.ensures in
    let l = c.loop-b in
    let s = c.args in
    let n = c.min-n.result in
    let all : l.b-index ≡ n = omega (arith, length-take n s.bytes.now) in
    let full : n ≡ (length s.out.now - s.at) / 2 = omega (arith, c.min-n.ensures, c.saturating_sub.ensures) in
    let p : l.p ≡ s.at + 2 * n = omega (arith, l.invariant.0, all) in
    let t = tail l.out l.p s.bytes.now n (omega arith) (omega (arith, l.invariant.1)) in
    record {
      buffer = b.buffer ∙ rw c.glyph-then-n-bytes.ensures (sym ((rw all at l.invariant.2) ∙ t));
      next = b.next ∙ rw (hex_length s.bytes.now, l.invariant.1) (cut s.at (length s.bytes.now) (length s.out.now) n l.p full (omega arith) p);
    }

pub returns : goal.returns
unfolding hex_of
returns c =
    let l = c.loop-b in
    let s = c.args in
    let n = c.min-n.result in
    let all : l.b-index ≡ length s.bytes.now = omega (arith, length-take n s.bytes.now, c.min-n.ensures) in
    let h : length s.bytes.now ≤ l.b-index = omega arith in
    let none : drop l.b-index s.bytes.now ≡ [] = drop_of_length-le s.bytes.now h in
    record {
      buffer = sym (l.invariant.2 ∙ rw none (write-none l.out l.p));
      next = rw (hex_length s.bytes.now) (omega (arith, l.invariant.0, all, c.min-n.ensures, c.saturating_sub.ensures));
    }
