-- The bytes held of a head, and more behind them: what the code's array of six places then holds. Assumes nothing.
use Rattle.std.proofs.Common.{◌≡◌, ℕ, ◌+◌, ◌-◌, ◌%◌, ◌<◌, ◌≤◌, Bool, true, false, cond, ◌&&◌, eqb, ltb, List, ◌++◌, length, get_or, take, drop, sym, refl, ap, ◌∙◌, append_assoc, arith, length-append, take-append-drop, length-take, length-take-le, take_all, ltb-true, le-ltb, lt-ltb, eq-eqb, ne_eqb, eqb-true, le-leb}
use borrow.Author.Tests.{eqb-false, lt-leb}
use lib.ListN.{get_or-append}
use Rattle.buffer.specs.Bytes.{write}
use Rattle.buffer.proofs.WriteLaws.{length-write, take-written, write-past}
use Rattle.logs.specs.Logs.{claimed}
use Rattle.logs.proofs.Pieces.{same_number}
use Rattle.log_compare.specs.Partial.{is_none, under_way, begun, takes}
use Rattle.log_compare.specs.Scan.{reach_of}
use Rattle.log_compare.specs.Steps.{is_over}
use Rattle.log_compare.specs.declared.Partial.{Partial}

-- fewer than six are held
pub few : (p : Partial) → length (under_way p).head < 6
unfolding under_way
few p = omega (arith, length-take (p.held % 6) p.head)

-- so that a byte is wanted in any case
pub some_reach : (p : Partial) → 0 < reach_of (under_way p)
unfolding reach_of
some_reach p = go (ltb 0 (under_way p).left) refl
  where
    go : (t : Bool) → ltb 0 (under_way p).left ≡ t → 0 < cond t (under_way p).left (6 - length (under_way p).head)
    go true e = ltb-true 0 (under_way p).left e
    go false e = omega (arith, few p)

module _ (p : Partial) (six : length p.head ≡ 6) where
  abbrev held : List ℕ
  held = (under_way p).head

  pub count : length held ≡ p.held % 6
  unfolding under_way
  count = length-take-le (p.held % 6) p.head (omega arith)

  pub none-held : is_none (under_way p) ≡ (eqb p.left 0 && eqb (p.held % 6) 0)
  unfolding is_none under_way
  none-held = rw (length-take-le (p.held % 6) p.head (omega arith))

  pub over-held : (last : Bool) (piece : List ℕ) → is_over last (held ++ piece) ≡ ((last && eqb (p.held % 6) 0) && eqb (length piece) 0)
  unfolding is_over
  over-held last piece = rw (length-append held piece, count) (split last (p.held % 6) (length piece))
    where
      sums : (m n : ℕ) → eqb (m + n) 0 ≡ (eqb m 0 && eqb n 0)
      sums m n = go (eqb m 0) (eqb n 0) refl refl
        where
          go : (x y : Bool) → eqb m 0 ≡ x → eqb n 0 ≡ y → eqb (m + n) 0 ≡ x && y
          go true true e f = eq-eqb (m + n) 0 (omega (arith, eqb-true m 0 e, eqb-true n 0 f))
          go true false e f = ne_eqb (m + n) 0 (λ z. eqb-false n 0 f (omega arith))
          go false y e f = ne_eqb (m + n) 0 (λ z. eqb-false m 0 e (omega arith))

      split : (last : Bool) (m n : ℕ) → (last && eqb (m + n) 0) ≡ ((last && eqb m 0) && eqb n 0)
      split true m n = sums m n
      split false m n = refl

  module _ (bytes : List ℕ) where
    abbrev array : List ℕ
    array = write p.head (p.held % 6) bytes

    pub body-taken : 0 < p.left → under_way (record { head = p.head; held = p.held; left = p.left - length bytes }) ≡ takes (under_way p) bytes
    unfolding takes under_way
    body-taken l = rw (lt-ltb 0 p.left l)

    module _ (z : p.left ≡ 0) where
      between : takes (under_way p) bytes ≡ begun (held ++ bytes)
      unfolding takes under_way
      between = rw (le-ltb 0 p.left (omega arith))

      -- the head goes on
      pub head-taken : length bytes < 6 - p.held % 6
          → under_way (record { head = array; held = p.held % 6 + length bytes; left = 0 }) ≡ takes (under_way p) bytes
      unfolding under_way begun
      head-taken l =
          let n : (p.held % 6 + length bytes) % 6 ≡ p.held % 6 + length bytes = omega arith in
          let shorter : length (take (p.held % 6) p.head ++ bytes) < 6 = omega (arith, length-append held bytes, count) in
          rw (n, take-written p.head (p.held % 6) bytes (omega arith)) (sym (between ∙ rw (lt-leb 6 (length (held ++ bytes)) shorter)))

    -- the head is whole
    module _ (l : 6 - p.held % 6 ≤ length bytes) where
      abbrev x : List ℕ
      x = take (6 - p.held % 6) bytes

      x-length : length x ≡ 6 - p.held % 6
      x-length = length-take-le (6 - p.held % 6) bytes l

      array-is : array ≡ held ++ x
      unfolding under_way
      array-is =
          let e : p.held % 6 + length x ≡ 6 = omega (arith, x-length) in
          ap (write p.head (p.held % 6)) (sym (take-append-drop (6 - p.held % 6) bytes))
          ∙ write-past p.head (p.held % 6) x (drop (6 - p.held % 6) bytes) (omega arith)
          ∙ sym (take_all (p.held % 6 + length x) (write p.head (p.held % 6) x) (omega (arith, length-write p.head (p.held % 6) x)))
          ∙ take-written p.head (p.held % 6) x (omega arith)

      array_behind : held ++ bytes ≡ array ++ drop (6 - p.held % 6) bytes
      array_behind =
          ap (λ (b : List ℕ). held ++ b) (sym (take-append-drop (6 - p.held % 6) bytes))
          ∙ sym (append_assoc held x (drop (6 - p.held % 6) bytes))
          ∙ ap (λ (b : List ℕ). b ++ drop (6 - p.held % 6) bytes) (sym array-is)

      array-length : length array ≡ 6
      array-length = length-write p.head (p.held % 6) bytes ∙ six

      pub array_claims : claimed 4 array ≡ claimed 4 (held ++ bytes)
      unfolding claimed
      array_claims = sym (rw array_behind (same_number 4 0 array (drop (6 - p.held % 6) bytes) (omega (arith, array-length))))

      pub array-byte : (i : ℕ) → i < 6 → get_or array i 0 ≡ get_or (held ++ bytes) i 0
      array-byte i h = sym (rw array_behind (get_or-append array (drop (6 - p.held % 6) bytes) 0 i (omega (arith, array-length))))

      pub whole-taken : p.left ≡ 0 → under_way (record { head = array; held = 0; left = claimed 4 array }) ≡ takes (under_way p) bytes
      unfolding under_way begun
      whole-taken z =
          let long : 6 ≤ length (take (p.held % 6) p.head ++ bytes) = omega (arith, length-append held bytes, count) in
          rw array_claims (sym (between z ∙ rw (le-leb 6 (length (held ++ bytes)) long)))
