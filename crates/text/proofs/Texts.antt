-- Texts put one after another into a buffer or into a line, and the lengths of texts.
-- Assumes nothing.
use mathlib.Core.Path.{◌≡◌, refl, sym, ap, ◌∙◌}
use mathlib.Core.Bool.{Bool, true, false, cond}
use mathlib.Core.List.{List, [], ◌∷◌, ◌++◌}
use Prim.Native.Nat.{ℕ, zero, suc, ◌+◌, ◌-◌, ◌*◌, ◌/◌, ◌%◌, ◌≤◌, min}
use native.Mathlib.Omega.{arith}
use lib.Dec.{ltb}
use lib.ListN.{length, take, length-append}
use lib.Seq.{paste, take_all}
use Rattle.std.proofs.Common.{append_assoc}
use Rattle.std.proofs.Math.Seq.{take-append-add}
use Rattle.std.proofs.lemmas.List.{take_min, length-take-le}
use Rattle.std.proofs.lemmas.List.Edits.{take-paste}
use Rattle.buffer.proofs.WriteLaws.{length-write, write-none, write-cut, write-twice, write-behind, take-front}
use Rattle.text.specs.Text.{Added, appended, hex_of, decimal_before, decimal_of}

-- no text is put
pub nothing : (out : List ℕ) (at : ℕ) → Added out at [] out at
nothing out at = record { buffer = sym (write-none out at); next = omega arith }

ends : (at t u n p : ℕ) → p ≡ at + min t (n - at) → p + min u (n - p) ≡ at + min (t + u) (n - at)
ends at t u n p e = omega arith

-- a text, and after it another from where the first ended: true also where the buffer cuts them
pub join : {old mid new t u : List ℕ} {at p r : ℕ} → Added old at t mid p → Added mid p u new r → Added old at (t ++ u) new r
join {old} {mid} {new} {t} {u} {at} {p} {r} a b =
    let same : length mid ≡ length old = ap length a.buffer ∙ length-write old at t in
    let e : p ≡ at + min (length t) (length mid - at) = omega (arith, a.next) in
    record {
      buffer = b.buffer ∙ rw (e, ← write-twice old at t u, ← a.buffer) (write-behind mid at (length t) u);
      next = b.next ∙ rw (length-append t u, ← same) (ends at (length t) (length u) (length mid) p e);
    }

-- the position after stays within the buffer
pub within : {old new t : List ℕ} {at r : ℕ} → Added old at t new r → at ≤ length old → r ≤ length new
within {old} {new} {t} {at} a h = omega (arith, a.next, ap length a.buffer, length-write old at t)

-- a text that fits at the start of a buffer is what stands there
pub whole : {old new t : List ℕ} {r : ℕ} → Added old 0 t new r → length t ≤ length old → take r new ≡ t
whole {old} {new} {t} {r} a h =
    let e : r ≡ length t = omega (arith, a.next) in
    rw (e, a.buffer) (take-front old t h)

-- a text put behind the first bytes of a buffer is put behind the line that they are
pub kept : {old new t : List ℕ} {at n r : ℕ} → Added old at t new r → length old ≡ n → at ≤ n → take r new ≡ appended n (take at old) t
kept {old} {new} {t} {at} {n} {r} a e h =
    let k : ℕ = min (n - at) (length t) in
    let end : r ≡ at + k = omega (arith, a.next) in
    let pasted : new ≡ paste old at t k = a.buffer ∙ write-cut old at t k (omega arith) (omega arith) (λ q. omega arith) in
    let size : length (take at old) + (n - at) ≡ n = omega (arith, length-take-le at old (omega arith)) in
    let put : take (at + k) (paste old at t k) ≡ take at old ++ take k t = take-paste old at t k (omega arith) (omega arith) in
    let cut : take (length (take at old) + (n - at)) (take at old ++ t) ≡ take at old ++ take (n - at) t = take-append-add (take at old) t (n - at) in
    rw (end, pasted, put, take_min (n - at) t) (sym (rw size at cut))

cut-first : (n : ℕ) (s t : List ℕ) → take n (take n s ++ t) ≡ take n (s ++ t)
cut-first zero s t = refl
cut-first (suc n) [] t = refl
cut-first (suc n) (x ∷ s) t = ap (λ (l : List ℕ). x ∷ l) (cut-first n s t)

joined : (n : ℕ) (line t u : List ℕ) → appended n (appended n line t) u ≡ appended n line (t ++ u)
joined n line t u = cut-first n (line ++ t) u ∙ ap (take n) (append_assoc line t u)

-- a text, and after it another: true also where the room cuts them
pub behind : (n : ℕ) (line t u : List ℕ) {mid r : List ℕ} → mid ≡ appended n line t → r ≡ appended n mid u → r ≡ appended n line (t ++ u)
behind n line t u a b = b ∙ rw a (joined n line t u)

-- a text that fits an empty line is the line
pub fitting : (n : ℕ) (t : List ℕ) → length t ≤ n → appended n [] t ≡ t
fitting n t h = take_all n t h

-- two digits for each byte
pub hex_length : (s : List ℕ) → length (hex_of s) ≡ 2 * length s
unfolding hex_of
hex_length [] = refl
hex_length (b ∷ rest) = omega (arith, hex_length rest)

-- a text that a test picks is no longer than both
pub either_length : (b : Bool) (t u : List ℕ) (k : ℕ) → length t ≤ k → length u ≤ k → length (cond b t u) ≤ k
either_length true t u k h g = h
either_length false t u k h g = g

before-length : (k n : ℕ) (t : List ℕ) → length (decimal_before k n t) ≤ suc k + length t
unfolding decimal_before
before-length zero n t = omega arith
before-length (suc k) n t = either_length (ltb n 10) ((48 + n) ∷ t) (decimal_before k (n / 10) ((48 + n % 10) ∷ t)) (suc (suc k) + length t) (omega arith) (omega (arith, before-length k (n / 10) ((48 + n % 10) ∷ t)))

-- at most 20 digits
pub decimal_length : (n : ℕ) → length (decimal_of n) ≤ 20
unfolding decimal_of
decimal_length n = before-length 19 n []
