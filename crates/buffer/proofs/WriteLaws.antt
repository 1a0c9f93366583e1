-- Bytes put into a list from a place on: the length stays, they stand where they were put, and bytes elsewhere are as they were.
-- Assumes nothing.
use Prim.Native.Nat.{ℕ, zero, suc, ◌+◌, ◌-◌, ◌≤◌, ◌<◌, min}
use native.Mathlib.Nat.{zero-add, suc-add, add_assoc, eq-zero-or-pos}
use mathlib.Core.Path.{◌≡◌, refl, sym, ap, ◌∙◌}
use mathlib.Core.Logic.{◌⊎◌, inl, inr, ⊎_elim}
use mathlib.Core.List.{List, [], ◌∷◌, ◌++◌}
use native.Mathlib.Omega.{arith}
use lib.ListN.{length, take, drop, get_or, set, length-take, length-drop, take-append-drop}
use lib.Seq.{paste, take-nil, take-take, take-append-le, drop-append-le, take-length, length-take-le, take-paste, drop-paste, drop-drop}
use borrow.Rule.Slice.PartMut.{mid_of, put_mid}
use Rattle.buffer.specs.Bytes.{write}

pub length-write : (w : List ℕ) (i : ℕ) (s : List ℕ) → length (write w i s) ≡ length w
unfolding write
length-write [] i s = refl
length-write (x ∷ xs) (suc i) s = ap suc (length-write xs i s)
length-write (x ∷ xs) zero [] = refl
length-write (x ∷ xs) zero (b ∷ bs) = ap suc (length-write xs zero bs)

-- as many of the bytes as there is room for, between what is before and what is behind
pub write-cut : (w : List ℕ) (i : ℕ) (s : List ℕ) (n : ℕ) → n ≤ length s → i + n ≤ length w → (n < length s → length w ≤ i + n) → write w i s ≡ paste w i s n
unfolding write
write-cut [] zero s zero l h f = refl
write-cut [] zero s (suc n) l h f = absurd (none h)
  where
    none : 0 + suc n ≤ 0 → ⊥
    none k = omega arith
write-cut [] (suc i) s n l h f = absurd (none h)
  where
    none : suc i + n ≤ 0 → ⊥
    none k = omega arith
write-cut (x ∷ xs) (suc i) s n l h f = rw suc-add (ap (λ (l : List ℕ). x ∷ l) (write-cut xs i s n l (omega arith) (λ k. less (f k))))
  where
    less : suc (length xs) ≤ suc i + n → length xs ≤ i + n
    less k = omega arith
write-cut (x ∷ xs) zero [] zero l h f = refl
write-cut (x ∷ xs) zero [] (suc n) l h f = absurd (none l)
  where
    none : suc n ≤ 0 → ⊥
    none k = omega arith
write-cut (x ∷ xs) zero (b ∷ bs) zero l h f = absurd (none (f (omega arith)))
  where
    none : suc (length xs) ≤ 0 + 0 → ⊥
    none k = omega arith
write-cut (x ∷ xs) zero (b ∷ bs) (suc n) l h f =
    rw zero-add
    (ap (λ (l : List ℕ). b ∷ l) (write-cut xs zero bs n (omega arith) (omega arith) (λ k. less (f (omega arith))) ∙ ap (λ (k : ℕ). take n bs ++ drop k xs) (zero-add n)))
  where
    less : suc (length xs) ≤ 0 + suc n → length xs ≤ 0 + n
    less k = omega arith

-- where they all fit
pub write-paste : (w : List ℕ) (i : ℕ) (s : List ℕ) → i + length s ≤ length w → write w i s ≡ paste w i s (length s)
write-paste w i s h = write-cut w i s (length s) (omega arith) h (λ k. absurd (none k))
  where
    none : length s < length s → ⊥
    none k = omega arith

-- past the end nothing is put
pub write-out : (w : List ℕ) (i : ℕ) (s : List ℕ) → length w ≤ i → write w i s ≡ w
unfolding write
write-out [] i s h = refl
write-out (x ∷ xs) zero s h = absurd (none h)
  where
    none : suc (length xs) ≤ 0 → ⊥
    none k = omega arith
write-out (x ∷ xs) (suc i) s h = ap (λ (l : List ℕ). x ∷ l) (write-out xs i s (omega arith))

-- the first byte, and then the others
pub write-set : (w : List ℕ) (i b : ℕ) (bs : List ℕ) → write w i (b ∷ bs) ≡ write (set w i b) (suc i) bs
unfolding write
write-set [] i b bs = refl
write-set (x ∷ xs) zero b bs = refl
write-set (x ∷ xs) (suc i) b bs = ap (λ (l : List ℕ). x ∷ l) (write-set xs i b bs)

-- bytes put behind bytes
pub write-twice : (w : List ℕ) (i : ℕ) (s t : List ℕ) → write (write w i s) (i + length s) t ≡ write w i (s ++ t)
unfolding write
write-twice [] i s t = refl
write-twice (x ∷ xs) (suc i) s t = rw suc-add (ap (λ (l : List ℕ). x ∷ l) (write-twice xs i s t))
write-twice (x ∷ xs) zero [] t = refl
write-twice (x ∷ xs) zero (b ∷ bs) t = rw zero-add (ap (λ (l : List ℕ). b ∷ l) (ap (λ (k : ℕ). write (write xs zero bs) k t) (sym (zero-add (length bs))) ∙ write-twice xs zero bs t))

-- bytes that would stand past the end are left out
pub write-past : (w : List ℕ) (i : ℕ) (s t : List ℕ) → length w ≤ i + length s → write w i (s ++ t) ≡ write w i s
write-past w i s t h = rw (← write-twice w i s t) (write-out (write w i s) (i + length s) t (omega (arith, length-write w i s)))

-- from where k bytes end, and from where they would end with room for all of them, the same is put
pub write-behind : (w : List ℕ) (i k : ℕ) (s : List ℕ) → write w (i + min k (length w - i)) s ≡ write w (i + k) s
write-behind w i k s =
    ⊎_elim (λ h. let e : min k (length w - i) ≡ k = omega arith in rw e)
    (λ h. write-out w (i + min k (length w - i)) s (omega arith) ∙ sym (write-out w (i + k) s (omega arith)))
    (eq-zero-or-pos (k - (length w - i)))

-- the bytes before a place and those put there
pub take-written : (w : List ℕ) (i : ℕ) (s : List ℕ) → i + length s ≤ length w → take (i + length s) (write w i s) ≡ take i w ++ s
take-written w i s h =
    ap (take (i + length s)) (write-paste w i s h) ∙ take-paste w i s (length s) (omega arith) (omega arith) ∙ ap (λ (l : List ℕ). take i w ++ l) (take-length s)

pub take-front : (w s : List ℕ) → length s ≤ length w → take (length s) (write w 0 s) ≡ s
take-front w s h = ap (λ (k : ℕ). take k (write w 0 s)) (sym (zero-add (length s))) ∙ take-written w 0 s (omega arith)

pub take_of_drop : (m p : ℕ) (l : List ℕ) → take m (drop p l) ≡ drop p (take (p + m) l)
take_of_drop m zero l = rw zero-add
take_of_drop m (suc p) [] = rw (take-nil m, take-nil (suc p + m))
take_of_drop m (suc p) (x ∷ xs) = rw suc-add (take_of_drop m p xs)

-- bytes that are put behind the first n of a part
pub own-part : (w : List ℕ) (p n : ℕ) (new : List ℕ) → p + n + length new ≤ length w
    → take (n + length new) (drop p (write w (p + n) new)) ≡ take n (drop p w) ++ new
own-part w p n new h =
    ap (λ (l : List ℕ). take (n + length new) (drop p l)) (write-paste w (p + n) new h)
    ∙ take_of_drop (n + length new) p (paste w (p + n) new (length new))
    ∙ ap (λ (k : ℕ). drop p (take k (paste w (p + n) new (length new)))) (sym (add_assoc p n (length new)))
    ∙ ap (drop p) (take-paste w (p + n) new (length new) (omega arith) (omega arith))
    ∙ ap (λ (l : List ℕ). drop p (take (p + n) w ++ l)) (take-length new)
    ∙ drop-append-le p (take (p + n) w) new (omega (arith, length-take (p + n) w))
    ∙ ap (λ (l : List ℕ). l ++ new) (sym (take_of_drop n p w))

-- bytes that are put elsewhere
pub other-part : (w : List ℕ) (p n at : ℕ) (new : List ℕ) → at + length new ≤ length w → (p + n ≤ at) ⊎ (at + length new ≤ p)
    → take n (drop p (write w at new)) ≡ take n (drop p w)
other-part w p n at new h (inl l) =
    ap (λ (v : List ℕ). take n (drop p v)) (write-paste w at new h)
    ∙ take_of_drop n p (paste w at new (length new))
    ∙ ap (drop p) (sym (take-take (p + n) (at + length new) (paste w at new (length new)) (omega arith))
    ∙ ap (take (p + n)) (take-paste w at new (length new) (omega arith) (omega arith))
    ∙ take-append-le (p + n) (take at w) (take (length new) new) (omega (arith, length-take at w))
    ∙ take-take (p + n) at w l)
    ∙ sym (take_of_drop n p w)
other-part w p n at new h (inr l) =
    let d : ℕ = p - (at + length new) in
    let e : at + length new + d ≡ p = omega arith in
    ap (λ (v : List ℕ). take n (drop p v)) (write-paste w at new h)
    ∙ ap (take n) (ap (λ (k : ℕ). drop k (paste w at new (length new))) (sym e)
    ∙ sym (drop-drop d (at + length new) (paste w at new (length new)))
    ∙ ap (drop d) (drop-paste w at new (length new) (omega arith) (omega arith))
    ∙ drop-drop d (at + length new) w
    ∙ ap (λ (k : ℕ). drop k w) e)

-- a place that no byte is put at
pub get_d_apart : (w : List ℕ) (i : ℕ) (s : List ℕ) (j : ℕ) → (i ≤ j → j < i + length s → ⊥) → get_or (write w i s) j 0 ≡ get_or w j 0
unfolding write
get_d_apart [] i s j h = refl
get_d_apart (x ∷ xs) (suc i) s zero h = refl
get_d_apart (x ∷ xs) (suc i) s (suc j) h = get_d_apart xs i s j (λ a b. h (omega arith) (omega arith))
get_d_apart (x ∷ xs) zero [] j h = refl
get_d_apart (x ∷ xs) zero (b ∷ bs) zero h = absurd (h (omega arith) (omega arith))
get_d_apart (x ∷ xs) zero (b ∷ bs) (suc j) h = get_d_apart xs zero bs j (λ a c. h (omega arith) (omega arith))

-- what stands behind the bytes that are put
pub drop_past : (w : List ℕ) (i : ℕ) (s : List ℕ) (k : ℕ) → i + length s ≤ k → drop k (write w i s) ≡ drop k w
unfolding write
drop_past [] i s k h = refl
drop_past (x ∷ xs) (suc i) s zero h = absurd (none h)
  where
    none : suc i + length s ≤ 0 → ⊥
    none l = omega arith
drop_past (x ∷ xs) (suc i) s (suc k) h = drop_past xs i s k (omega arith)
drop_past (x ∷ xs) zero [] k h = refl
drop_past (x ∷ xs) zero (b ∷ bs) zero h = absurd (none h)
  where
    none : 0 + suc (length bs) ≤ 0 → ⊥
    none l = omega arith
drop_past (x ∷ xs) zero (b ∷ bs) (suc k) h = drop_past xs zero bs k (omega arith)

-- nothing is put
pub write-none : (w : List ℕ) (i : ℕ) → write w i [] ≡ w
unfolding write
write-none [] i = refl
write-none (x ∷ xs) zero = refl
write-none (x ∷ xs) (suc i) = ap (λ (l : List ℕ). x ∷ l) (write-none xs i)

-- a single byte
pub set-write : (w : List ℕ) (i b : ℕ) → set w i b ≡ write w i (b ∷ [])
set-write w i b = sym (write-set w i b [] ∙ write-none (set w i b) (suc i))

-- bytes that are put behind a first part
pub write_skip : (p q : List ℕ) (i : ℕ) (s : List ℕ) → write (p ++ q) (length p + i) s ≡ p ++ write q i s
unfolding write
write_skip [] q i s = rw zero-add
write_skip (x ∷ p) q i s = rw suc-add (ap (λ (l : List ℕ). x ∷ l) (write_skip p q i s))

-- bytes that are put within a first part
pub write-within : (m rest : List ℕ) (i : ℕ) (s : List ℕ) → i + length s ≤ length m → write (m ++ rest) i s ≡ write m i s ++ rest
unfolding write
write-within [] rest zero [] h = write-none rest 0
write-within [] rest zero (b ∷ bs) h = absurd (none h)
  where
    none : 0 + suc (length bs) ≤ 0 → ⊥
    none k = omega arith
write-within [] rest (suc i) s h = absurd (none h)
  where
    none : suc i + length s ≤ 0 → ⊥
    none k = omega arith
write-within (x ∷ xs) rest (suc i) s h = ap (λ (l : List ℕ). x ∷ l) (write-within xs rest i s (omega arith))
write-within (x ∷ xs) rest zero [] h = refl
write-within (x ∷ xs) rest zero (b ∷ bs) h = ap (λ (l : List ℕ). b ∷ l) (write-within xs rest zero bs (omega arith))

-- bytes that are put into a part that was lent
pub write_mid : (w : List ℕ) (a k at : ℕ) (s : List ℕ) → a + k ≤ length w → at + length s ≤ k → put_mid a k w (write (mid_of a k w) at s) ≡ write w (a + at) s
write_mid w a k at s h l =
    let front : length (take a w) ≡ a = length-take-le a w (omega arith) in
    let part : length (mid_of a k w) ≡ k = length-take-le k (drop a w) (omega (arith, length-drop a w)) in
    ap (λ (v : List ℕ). take a w ++ v) (sym (write-within (mid_of a k w) (drop k (drop a w)) at s (omega arith)))
    ∙ sym (write_skip (take a w) (mid_of a k w ++ drop k (drop a w)) at s)
    ∙ rw (front, take-append-drop k (drop a w), take-append-drop a w)

-- the bytes behind are put first
pub write-before : (w : List ℕ) (i : ℕ) (s t : List ℕ) → write w i (s ++ t) ≡ write (write w (i + length s) t) i s
unfolding write
write-before [] i s t = refl
write-before (x ∷ xs) (suc i) s t = rw suc-add (ap (λ (l : List ℕ). x ∷ l) (write-before xs i s t))
write-before (x ∷ xs) zero [] t = sym (write-none (write (x ∷ xs) zero t) zero)
write-before (x ∷ xs) zero (b ∷ bs) t = rw zero-add (ap (λ (l : List ℕ). b ∷ l) (write-before xs zero bs t ∙ ap (λ (k : ℕ). write (write xs k t) zero bs) (zero-add (length bs))))

-- bytes put behind those that were put at the start
pub write_also : (e w s t : List ℕ) (q : ℕ) → w ≡ write e 0 s → q ≡ length s → write w q t ≡ write e 0 (s ++ t)
write_also e w s t q h k = rw (h, k, ← zero-add (length s)) (write-twice e 0 s t)
