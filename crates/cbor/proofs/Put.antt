-- A number's bytes, the highest first: the last w of the eight that the library makes of a number are those of the definition.
-- Assumes nothing.
use mathlib.Core.Path.{◌≡◌, refl, ap, sym, ◌∙◌}
use mathlib.Core.List.{List, [], ◌∷◌, ◌++◌}
use Prim.Native.Nat.{ℕ, zero, suc, ◌+◌, ◌-◌, ◌*◌, ◌/◌, ◌%◌, ◌^◌, ◌≤◌}
use native.Mathlib.Omega.{arith}
use Rattle.std.proofs.Math.Nat.{div-div-eq-div-mul, pow-suc, mul_comm}
use lib.ListN.{length, take, drop}
use lib.Seq.{take_all}
use Rattle.std.specs.Int.{byte_at, bytes_high_first}
use Rattle.cbor.specs.Heads.{big_bytes}
use Rattle.cbor.proofs.HeadLaws.{length_big}

-- byte k + 1 of a number is byte k of a 256th of it
next-byte : (k n : ℕ) → byte_at (suc k) n ≡ byte_at k (n / 256)
next-byte zero n = refl
next-byte (suc k) n =
    let e : 256 ^ suc (suc k) ≡ 256 * 256 ^ suc k = pow-suc 256 (suc k) ∙ mul_comm (256 ^ suc k) 256 in
    rw e (ap (λ (q : ℕ). q % 256) (sym (div-div-eq-div-mul n 256 (256 ^ suc k))))

-- the lowest byte last
low-last : (k n : ℕ) → bytes_high_first (suc k) n ≡ bytes_high_first k (n / 256) ++ (n % 256 ∷ [])
low-last zero n = refl
low-last (suc k) n =
    ap (λ (b : ℕ). b ∷ bytes_high_first (suc k) n) (next-byte k n) ∙ ap (λ (l : List ℕ). byte_at k (n / 256) ∷ l) (low-last k n)

pub high_first : (w n : ℕ) → bytes_high_first w n ≡ big_bytes w n
unfolding big_bytes
high_first zero n = refl
high_first (suc w) n = low-last w n ∙ ap (λ (l : List ℕ). l ++ (n % 256 ∷ [])) (high_first w (n / 256))

pub last-bytes : (k w n : ℕ) → drop k (bytes_high_first (k + w) n) ≡ big_bytes w n
last-bytes zero w n = let e : 0 + w ≡ w = omega arith in rw e (high_first w n)
last-bytes (suc k) w n = let e : suc k + w ≡ suc (k + w) = omega arith in rw e (last-bytes k w n)

-- the last w of so many bytes of a number, as a slice
pub last-slice : (k w m n : ℕ) → k + w ≡ m → take (m - k) (drop k (bytes_high_first m n)) ≡ big_bytes w n
last-slice k w m n h =
    let e : drop k (bytes_high_first m n) ≡ big_bytes w n = rw (sym h) (last-bytes k w n) in
    let l : length (big_bytes w n) ≤ m - k = omega (arith, length_big w n) in
    ap (take (m - k)) e ∙ take_all (m - k) (big_bytes w n) l
