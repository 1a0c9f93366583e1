-- The shortest head reads as what it was written for, no head that reads so is shorter, and a head that was read is the shortest exactly if
-- it is as long. One law for every width.
-- Assumes nothing.
use Rattle.std.specs.Prelude.{Some}
use mathlib.Core.Path.{◌≡◌, refl, sym, ap, ◌∙◌}
use mathlib.Core.Bool.{Bool, true, false, cond}
use mathlib.Core.List.{List, [], ◌∷◌, ◌++◌, append_assoc}
use Prim.Native.Nat.{ℕ, zero, suc, ◌+◌, ◌-◌, ◌*◌, ◌/◌, ◌%◌, ◌^◌, ◌≤◌, ◌<◌}
use native.Mathlib.Nat.{add-zero, pow-suc, le_refl, pow-le-pow_right, eq-zero-or-pos}
use mathlib.Core.Logic.{⊎_elim}
use native.Mathlib.Omega.{arith}
use lib.ListN.{length, get_or, length-append}
use lib.Seq.{get_or_at}
use lib.Pow.{pow_pos, pow-lt}
use lib.Dec.{ltb, leb, eqb, lit<}
use borrow.Author.Tests.{ltb-true, ltb-false, lt-ltb, le-ltb, lt-leb, eqb-true, eqb-false, eq-eqb, ne_eqb}
use Rattle.cbor.specs.declared.Item.TheVariants.{Bytes, Map}
use Rattle.cbor.specs.Cbor.{width, shortest, big_endian, head_value, head_of, head_at, bytes_at, item_at}
use Rattle.cbor.specs.Heads.{big_bytes, head_bytes, string_bytes}
use Rattle.cbor.specs.Laws.{HeadBack, NotShorter, NoneShorter, AsWritten, ShortestTold}
use Rattle.cbor.proofs.Ahead.{by_test}
use Rattle.cbor.proofs.Shift.{shifted_item, big_endian_shift, item_shift}

pub length_big : (w n : ℕ) → length (big_bytes w n) ≡ w
unfolding big_bytes
length_big zero n = refl
length_big (suc w) n = rw (length-append, length_big w (n / 256)) (omega arith)

none_read : (s : List ℕ) → big_endian s 0 0 ≡ 0
unfolding big_endian
none_read s = refl

more-read : (s : List ℕ) (w : ℕ) → big_endian s 0 (suc w) ≡ big_endian s 0 w * 256 + get_or s (0 + w) 0
unfolding big_endian
more-read s w = refl

-- w bytes hold every number below 256 ^ w
pub big_holds : (w n : ℕ) (rest : List ℕ) → n < 256 ^ w → big_endian (big_bytes w n ++ rest) 0 w ≡ n
unfolding big_bytes
big_holds zero n rest h = none_read rest ∙ omega arith
big_holds (suc w) n rest h =
    let less : n / 256 < 256 ^ w = omega (arith, pow-suc 256 w) in
    let here : get_or (big_bytes w (n / 256) ++ (n % 256 ∷ rest)) (0 + w) 0 ≡ n % 256 = get_or_at (big_bytes w (n / 256)) (n % 256) rest 0 (0 + w) (omega (arith, length_big w (n / 256))) in
    rw (append_assoc (big_bytes w (n / 256)) (n % 256 ∷ []) rest, more-read, big_holds w (n / 256) (n % 256 ∷ rest) less, here) (omega arith)

-- The low five bits of the shortest head are not reserved, and name at most eight bytes.
pub record Narrow (info : ℕ) : Type 0 where
  pub unreserved : info < 28
  pub most : width info ≤ 8

narrow_wide : (info : ℕ) → info < 28 → width info ≤ 8 → Narrow info
narrow_wide info h k = record { unreserved = h; most = k }

pub shortest_narrow : (n : ℕ) → Narrow (shortest n)
unfolding shortest width
shortest_narrow n =
    by_test Narrow (ltb n 24) (λ e. let l = ltb-true n 24 e in record { unreserved = omega arith; most = rw e (omega arith) }) (λ e.
    by_test Narrow (ltb n 256) (λ e. narrow_wide 24 (omega arith) (omega arith)) (λ e.
    by_test Narrow (ltb n 65536) (λ e. narrow_wide 25 (omega arith) (omega arith)) (λ e.
    by_test Narrow (ltb n 4294967296) (λ e. narrow_wide 26 (omega arith) (omega arith)) (λ e.
    narrow_wide 27 (omega arith) (omega arith)))))

-- They, or the bytes that follow, hold the number.
record Holds (n info : ℕ) : Type 0 where
  itself : info < 24 → info ≡ n
  follows : 24 ≤ info → n < 256 ^ width info

holds_wide : (n info : ℕ) → 24 ≤ info → n < 256 ^ width info → Holds n info
holds_wide n info h f = record { itself = λ l. absurd (omega arith); follows = λ l. f }

shortest_holds : (n : ℕ) → n < 2 ^ 64 → Holds n (shortest n)
unfolding shortest width
shortest_holds n h =
    by_test (Holds n) (ltb n 24) (λ e. let l = ltb-true n 24 e in record { itself = λ k. refl; follows = λ k. absurd (omega arith) }) (λ e.
    by_test (Holds n) (ltb n 256) (λ e. holds_wide n 24 (omega arith) (ltb-true n 256 e)) (λ e.
    by_test (Holds n) (ltb n 65536) (λ e. holds_wide n 25 (omega arith) (ltb-true n 65536 e)) (λ e.
    by_test (Holds n) (ltb n 4294967296) (λ e. holds_wide n 26 (omega arith) (ltb-true n 4294967296 e)) (λ e.
    holds_wide n 27 (omega arith) h))))

pub length-head : (major n : ℕ) → length (head_bytes major n) ≡ suc (width (shortest n))
unfolding head_bytes
length-head major n = ap suc (length_big (width (shortest n)) n)

pub head-most : (major n : ℕ) → length (head_bytes major n) ≤ 9
head-most major n = omega (arith, length-head major n, (shortest_narrow n).most)

value_read : (major n info : ℕ) (rest : List ℕ) → Holds n info → head_value (major ∷ (big_bytes (width info) n ++ rest)) 0 info ≡ n
unfolding head_value
value_read major n info rest h = by (ltb info 24) refl
  where
    by : (b : Bool) → ltb info 24 ≡ b → cond b info (big_endian (major ∷ (big_bytes (width info) n ++ rest)) (0 + 1) (width info)) ≡ n
    by true e = h.itself (ltb-true info 24 e)
    by false e = big_endian_shift (major ∷ []) (big_bytes (width info) n ++ rest) 0 (width info) ∙ big_holds (width info) n rest (h.follows (ltb-false info 24 e))

pub head-back : HeadBack
unfolding head_at head_of head_bytes
head-back major n rest h =
    let k = shortest_holds n h in
    let info : ℕ = shortest n in
    let below : info < 28 = (shortest_narrow n).unreserved in
    let high : (major * 32 + info) / 32 ≡ major = omega arith in
    let low : (major * 32 + info) % 32 ≡ info = omega arith in
    let long : length (big_bytes (width info) n) ≡ width info = length_big (width info) n in
    let fits : 0 + 1 + width info ≤ suc (length (big_bytes (width info) n ++ rest)) = omega (arith, length-append (big_bytes (width info) n) rest) in
    let next : 0 + 1 + width info ≡ suc (length (big_bytes (width info) n)) = omega arith in
    rw (high, low, lt-leb 28 info below, le-ltb _ _ fits, value_read (major * 32 + info) n info rest k, next)

-- ---- none is shorter

-- from 24 on, the low five bits name more bytes the larger they are
width_grows : (a b : ℕ) → 24 ≤ a → a ≤ b → width a ≤ width b
unfolding width
width_grows a b h k = rw (le-ltb a 24 h, le-ltb b 24 (omega arith)) (pow-le-pow_right (lit< tt) (omega arith))

-- so where the bytes that `a` names do not hold a number and those that `b` names do, b is larger
passes : (a b n : ℕ) → 24 ≤ b → 256 ^ width a ≤ n → n < 256 ^ width b → a < b
passes a b n h few enough =
    ⊎_elim (λ z. let more : 256 ^ width b ≤ 256 ^ width a = pow-le-pow_right (lit< tt) (width_grows b a h (omega arith)) in absurd (omega arith)) (λ p. omega arith) (eq-zero-or-pos (b - a))

short_itself : (n : ℕ) → ltb n 24 ≡ true → shortest n ≡ n
unfolding shortest
short_itself n e = rw e

pub width-none : (n : ℕ) → ltb n 24 ≡ true → width n ≡ 0
unfolding width
width-none n e = rw e

width-enough : (n info : ℕ) → 24 ≤ info → n < 256 ^ width info → width (shortest n) ≤ width info
unfolding shortest width
width-enough n info l enough =
    by_test (λ (i : ℕ). width i ≤ width info) (ltb n 24) (λ e. rw (width-none n e) (omega arith)) (λ e.
    by_test (λ (i : ℕ). width i ≤ width info) (ltb n 256) (λ e. width_grows 24 info (omega arith) l) (λ e.
    let past-24 : 24 < info = passes 24 info n l (ltb-false n 256 e) enough in
    by_test (λ (i : ℕ). width i ≤ width info) (ltb n 65536) (λ e. width_grows 25 info (omega arith) past-24) (λ e.
    let past-25 : 25 < info = passes 25 info n l (ltb-false n 65536 e) enough in
    by_test (λ (i : ℕ). width i ≤ width info) (ltb n 4294967296) (λ e. width_grows 26 info (omega arith) past-25) (λ e.
    width_grows 27 info (omega arith) (passes 26 info n l (ltb-false n 4294967296 e) enough)))))

width_least : (n info : ℕ) → (info < 24 → n ≡ info) → (24 ≤ info → n < 256 ^ width info) → width (shortest n) ≤ width info
width_least n info itself follows = by (ltb info 24) refl
  where
    by : (b : Bool) → ltb info 24 ≡ b → width (shortest n) ≤ width info
    by true e = rw (itself (ltb-true info 24 e), short_itself info e) (le_refl (width info))
    by false e = let l : 24 ≤ info = ltb-false info 24 e in width-enough n info l (follows l)

-- the number that is read
pub big_below : (s : List ℕ) → ((i : ℕ) → get_or s i 0 < 256) → (at w : ℕ) → big_endian s at w < 256 ^ w
unfolding big_endian
big_below s bytes at zero = omega arith
big_below s bytes at (suc w) = rw pow-suc (omega (arith, big_below s bytes at w, bytes (at + w)))

value_itself : (s : List ℕ) (at info : ℕ) → info < 24 → head_value s at info ≡ info
unfolding head_value
value_itself s at info h = rw (lt-ltb info 24 h)

value_follows : (s : List ℕ) → ((i : ℕ) → get_or s i 0 < 256) → (at info : ℕ) → 24 ≤ info → head_value s at info < 256 ^ width info
unfolding head_value
value_follows s bytes at info h = rw (le-ltb info 24 h) (big_below s bytes (at + 1) (width info))

pub none-shorter : NoneShorter
unfolding head_at head_of
none-shorter s bytes at =
    let info : ℕ = get_or s at 0 % 32 in
    by_test (NotShorter at) (leb 28 info) (λ e. tt) (λ e.
    by_test (NotShorter at) (ltb (length s) (at + 1 + width info)) (λ f. tt) (λ f.
    let n : ℕ = head_value s at info in
    omega (arith, length-head (get_or s at 0 / 32) n, width_least n info (value_itself s at info) (value_follows s bytes at info))))

-- ---- which one is the shortest

width-more : (a b : ℕ) → 24 ≤ a → a < b → width a < width b
unfolding width
width-more a b h k = rw (le-ltb a 24 h, le-ltb b 24 (omega arith)) (pow-lt (omega arith))

-- so from 24 on they are alike where they name as many bytes
same_width : (a b : ℕ) → 24 ≤ a → 24 ≤ b → eqb a b ≡ eqb (width a) (width b)
same_width a b h k = by (eqb a b) refl
  where
    alike : (t u : Bool) → ltb a b ≡ t → ltb b a ≡ u → width a ≡ width b → a ≡ b
    alike true u e f w = let l = width-more a b h (ltb-true a b e) in absurd (omega arith)
    alike false true e f w = let l = width-more b a k (ltb-true b a f) in absurd (omega arith)
    alike false false e f w = omega (arith, ltb-false a b e, ltb-false b a f)

    by : (t : Bool) → eqb a b ≡ t → t ≡ eqb (width a) (width b)
    by true e = sym (eq-eqb (width a) (width b) (ap width (eqb-true a b e)))
    by false e = sym (ne_eqb (width a) (width b) (λ w. eqb-false a b e (alike (ltb a b) (ltb b a) refl refl w)))

shortest-wide : (n : ℕ) → 24 ≤ n → 24 ≤ shortest n
unfolding shortest
shortest-wide n h =
    rw (le-ltb n 24 h)
    (by_test (λ (i : ℕ). 24 ≤ i) (ltb n 256) (λ e. omega arith) (λ e.
    by_test (λ (i : ℕ). 24 ≤ i) (ltb n 65536) (λ e. omega arith) (λ e.
    by_test (λ (i : ℕ). 24 ≤ i) (ltb n 4294967296) (λ e. omega arith) (λ e. omega arith))))

width_some : (info : ℕ) → 24 ≤ info → 1 ≤ width info
unfolding width
width_some info h = rw (le-ltb info 24 h) (pow_pos (info - 24))

by_width : (n info : ℕ) → (info < 24 → n ≡ info) → eqb info (shortest n) ≡ eqb (width info) (width (shortest n))
by_width n info itself = by (ltb info 24) (ltb n 24) refl refl
  where
    by : (t u : Bool) → ltb info 24 ≡ t → ltb n 24 ≡ u → eqb info (shortest n) ≡ eqb (width info) (width (shortest n))
    by true u e f =
        rw (itself (ltb-true info 24 e), short_itself info e, eq-eqb info info refl, eq-eqb (width info) (width info) refl)
    by false true e f =
        let l = ltb-true n 24 f in
        let m = width_some info (ltb-false info 24 e) in
        rw (short_itself n f, width-none n f, ne_eqb info n (λ q. absurd (omega (arith, ltb-false info 24 e))), ne_eqb (width info) 0 (λ q. absurd (omega arith)))
    by false false e f = same_width info (shortest n) (ltb-false info 24 e) (shortest-wide n (ltb-false n 24 f))

pub shortest-told : ShortestTold
unfolding head_at head_of
shortest-told s at =
    let info : ℕ = get_or s at 0 % 32 in
    by_test (AsWritten at) (leb 28 info) (λ e. tt) (λ e.
    by_test (AsWritten at) (ltb (length s) (at + 1 + width info)) (λ f. tt) (λ f.
    let n : ℕ = head_value s at info in
    by_width n info (value_itself s at info) ∙ ends-alike at (width info) (width (shortest n)) (length (head_bytes (get_or s at 0 / 32) n)) (length-head (get_or s at 0 / 32) n)))
  where
    ends-alike : (at a b c : ℕ) → c ≡ suc b → eqb a b ≡ eqb (at + c) (at + 1 + a)
    ends-alike at a b c q = by (eqb a b) refl
      where
        by : (t : Bool) → eqb a b ≡ t → t ≡ eqb (at + c) (at + 1 + a)
        by true e = sym (eq-eqb (at + c) (at + 1 + a) (omega (arith, eqb-true a b e)))
        by false e = sym (ne_eqb (at + c) (at + 1 + a) (λ z. eqb-false a b e (omega arith)))

-- A written byte string, and a written map's head, read behind a prefix.
string-front : (k rest : List ℕ) → length k < 2 ^ 64 → item_at (string_bytes k ++ rest) 0 ≡ Some (Bytes (length (head_bytes 2 (length k))) (length (string_bytes k)))
unfolding item_at string_bytes bytes_at
string-front k rest h =
    let head : List ℕ = head_bytes 2 (length k) in
    let fits : length head + length k ≤ length (head ++ (k ++ rest)) = omega (arith, length-append head (k ++ rest), length-append k rest) in
    rw (append_assoc head k rest, head-back 2 (length k) (k ++ rest) h, le-ltb _ _ fits, length-append head k)

pub string-at : (p k rest : List ℕ) → length k < 2 ^ 64 → item_at (p ++ (string_bytes k ++ rest)) (length p) ≡ Some (Bytes (length p + length (head_bytes 2 (length k))) (length p + length (string_bytes k)))
string-at p k rest h =
    ap (item_at (p ++ (string_bytes k ++ rest))) (sym (add-zero (length p)))
    ∙ item_shift p (string_bytes k ++ rest) 0
    ∙ ap (shifted_item (length p)) (string-front k rest h)

map-front : (n : ℕ) (rest : List ℕ) → n < 2 ^ 64 → item_at (head_bytes 5 n ++ rest) 0 ≡ Some (Map n (length (head_bytes 5 n)))
unfolding item_at
map-front n rest h = rw (head-back 5 n rest h)

pub map_at : (p : List ℕ) (n : ℕ) (rest : List ℕ) → n < 2 ^ 64 → item_at (p ++ (head_bytes 5 n ++ rest)) (length p) ≡ Some (Map n (length p + length (head_bytes 5 n)))
map_at p n rest h =
    ap (item_at (p ++ (head_bytes 5 n ++ rest))) (sym (add-zero (length p)))
    ∙ item_shift p (head_bytes 5 n ++ rest) 0
    ∙ ap (shifted_item (length p)) (map-front n rest h)
