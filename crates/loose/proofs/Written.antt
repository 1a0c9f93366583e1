-- The scan behind a prefix goes as it does alone, and heads that are written are shortest: the scan finds nothing in them.
-- Assumes nothing.
use Rattle.std.specs.Prelude.{Option, None, Some}
use mathlib.Core.Path.{◌≡◌, refl, sym, ◌∙◌}
use mathlib.Core.List.{List, ◌++◌, append_assoc}
use Prim.Native.Nat.{ℕ, zero, suc, ◌+◌, ◌^◌, ◌≤◌, ◌<◌}
use native.Mathlib.Nat.{add_assoc, add-suc}
use native.Mathlib.Omega.{arith}
use lib.ListN.{length, length-append}
use lib.Dec.{ltb, eqb}
use borrow.Author.Tests.{le-ltb, ne_eqb, eq-eqb}
use Rattle.cbor.specs.declared.Head.{Head}
use Rattle.cbor.specs.Cbor.{shortest, is_shortest, head_at, end_of}
use Rattle.cbor.specs.Heads.{head_bytes, string_bytes}
use Rattle.cbor.proofs.Ahead.{head_with}
use Rattle.cbor.proofs.Shift.{shifted_head, of_both, ltb_shift, head_shift}
use Rattle.cbor.proofs.HeadLaws.{length-head, head-back}
use Rattle.loose.specs.Scan.{behind, scan, scanned}
use Rattle.loose.proofs.ScanLaws.{from, enough, goes}

-- ---- behind a prefix

module _ (p s : List ℕ) where
  abbrev past : ℕ
  past = length p

  end_shift : (at n : ℕ) → end_of (p ++ s) (past + at) n ≡ past + end_of s at n
  unfolding end_of
  end_shift at n =
      rw (length-append, add_assoc past at n, ltb_shift past (length s) (at + n)) (of_both (λ (q : ℕ). past + q) (ltb (length s) (at + n)) (sym (add-suc past (length s))) refl)

  behind_shift : (h : Option Head) → behind (p ++ s) (shifted_head past h) ≡ past + behind s h
  behind_shift None = length-append p s
  behind_shift (Some h) = of_both (λ (q : ℕ). past + q) (eqb h.major 2) (end_shift h.next h.value) refl

  shortest_shift : (h : Option Head) → is_shortest (shifted_head past h) ≡ is_shortest h
  shortest_shift None = refl
  shortest_shift (Some h) = refl

  scan_shift : (k at : ℕ) → scan (p ++ s) k (past + at) ≡ scan s k at
  unfolding scan
  scan_shift zero at = refl
  scan_shift (suc k) at =
      rw (length-append, ltb_shift past at (length s), head_shift p s at, shortest_shift (head_at s at), behind_shift (head_at s at), scan_shift k (behind s (head_at s at)))

  pub from_shift : (at : ℕ) → from (p ++ s) (past + at) ≡ from s at
  from_shift at =
      let l : length (p ++ s) ≤ length s + (past + at) = omega (arith, length-append p s) in
      enough (p ++ s) (length (p ++ s)) (length s) (past + at) (omega arith) l ∙ scan_shift (length s) at

-- ---- a head that is written, and a byte string

-- the scan goes on behind it
passed : (p rest : List ℕ) (major n : ℕ) → n < 2 ^ 64 → head_at (p ++ rest) 0 ≡ head_with major (shortest n) n (length (head_bytes major n))
    → behind (p ++ rest) (head_with major (shortest n) n (length (head_bytes major n))) ≡ length p → 0 < length p → scanned (p ++ rest) ≡ scanned rest
unfolding scanned
passed p rest major n h read goes_on some =
    let e : length p ≡ length p + 0 = omega arith in
    goes (p ++ rest) 0 (omega (arith, length-append p rest))
    ∙ rw (read, eq-eqb (shortest n) (shortest n) refl, goes_on, e) (from_shift p rest 0)

pub head_passed : (major n : ℕ) (rest : List ℕ) → n < 2 ^ 64 → (major ≡ 2 → ⊥) → scanned (head_bytes major n ++ rest) ≡ scanned rest
head_passed major n rest h o =
    passed (head_bytes major n) rest major n h (head-back major n rest h) (rw (ne_eqb major 2 o)) (omega (arith, length-head major n))

pub string-passed : (k rest : List ℕ) → length k < 2 ^ 64 → scanned (string_bytes k ++ rest) ≡ scanned rest
unfolding string_bytes end_of
string-passed k rest h =
    let head : List ℕ = head_bytes 2 (length k) in
    let long : length head + length k ≤ length ((head ++ k) ++ rest) = omega (arith, length-append (head ++ k) rest, length-append head k) in
    passed (string_bytes k) rest 2 (length k) h (rw (append_assoc head k rest) (head-back 2 (length k) (k ++ rest) h)) (rw (le-ltb _ _ long, length-append head k))
    (omega (arith, length-head 2 (length k), length-append head k))
