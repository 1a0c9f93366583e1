-- The heads one behind the other are those that the recursion over a value meets: what a reader reads, the scan passes, and finds a loose
-- head there exactly if the definition does. One law for each reader, as in `Ahead` and `Shift` of cbor.
-- Assumes nothing.
use Rattle.std.specs.Prelude.{Option, None, Some}
use mathlib.Core.Path.{◌≡◌, refl, sym, ap, ◌∙◌, subst}
use mathlib.Core.Bool.{Bool, true, false, cond, ◌||◌, not, false≢true}
use mathlib.Core.List.{List}
use Prim.Native.Nat.{ℕ, zero, suc, ◌+◌, ◌-◌, ◌*◌, ◌/◌, ◌%◌, ◌^◌, ◌≤◌, ◌<◌}
use native.Mathlib.Nat.{zero-add, pow-zero, pow-suc, pow-le-pow_right}
use native.Mathlib.Omega.{arith}
use lib.ListN.{length, get_or}
use lib.Dec.{ltb, leb, eqb, lit<}
use borrow.Author.Tests.{ltb-true, lt-ltb, lt-leb, le-ltb, eqb-true, eqb-false, ne_eqb, eq-eqb}
use Rattle.cbor.specs.declared.Head.{Head}
use Rattle.cbor.specs.declared.Item.{Item}
use Rattle.cbor.specs.declared.Item.TheVariants.{Unsigned, Negative, Bytes, Simple, Array, Map, Set}
use Rattle.cbor.specs.Cbor.{Reader, width, shortest, is_shortest, big_endian, head_value, head_of, head_at, end_of, bytes_at, set_of, tagged, item_of, item_at, and_then, repeat, scalar_of, key, pair, value_of, value, whole, is_item}
use Rattle.cbor.proofs.HeadLaws.{width-none, big_below}
use Rattle.cbor.proofs.Ahead.{head_with, by_test, Head_ahead, head-ahead}
use Rattle.loose.specs.Loose.{Question, onward, any_of, loose_heads, loose_item, loose_pair, loose_elements, loose}
use Rattle.loose.specs.Scan.{behind_of, behind, scan, scanned, ScanHolds}
use Rattle.loose.specs.Skip.{Skips, Halved}

or_assoc : (a b c : Bool) → ((a || b) || c) ≡ (a || (b || c))
or_assoc true b c = refl
or_assoc false b c = refl

or_false : (a : Bool) → (a || false) ≡ a
or_false true = refl
or_false false = refl

module _ (s : List ℕ) where
  -- ---- the scan goes ahead, so that as many heads as there are bytes are all of them

  behind-ahead : (p : ℕ) (h : Option Head) → Head_ahead s p h → p < length s → p < behind s h
  unfolding end_of
  behind-ahead p None a l = l
  behind-ahead p (Some h) a l =
      by_test (λ (q : ℕ). p < q) (eqb h.major 2) (λ e. by_test (λ (q : ℕ). p < q) (ltb (length s) (h.next + h.value)) (λ f. omega arith) (λ f. omega arith)) (λ e. a.0)

  pub enough : (k j p : ℕ) → length s ≤ k + p → length s ≤ j + p → scan s k p ≡ scan s j p
  unfolding scan
  enough zero zero p a b = refl
  enough zero (suc j) p a b = rw (le-ltb p (length s) (omega arith))
  enough (suc k) zero p a b = rw (le-ltb p (length s) (omega arith))
  enough (suc k) (suc j) p a b = ahead (ltb p (length s)) refl (enough k j (behind s (head_at s p)))
    where
      ahead : (t : Bool) → ltb p (length s) ≡ t
          → (length s ≤ k + behind s (head_at s p) → length s ≤ j + behind s (head_at s p) → scan s k (behind s (head_at s p)) ≡ scan s j (behind s (head_at s p)))
          → cond t (not (is_shortest (head_at s p)) || scan s k (behind s (head_at s p))) false
          ≡ cond t (not (is_shortest (head_at s p)) || scan s j (behind s (head_at s p))) false
      ahead false e same = refl
      ahead true e same =
          let l = behind-ahead p (head_at s p) (head-ahead s p) (ltb-true p (length s) e) in
          ap (λ x. not (is_shortest (head_at s p)) || x) (same (omega arith) (omega arith))

  -- the scan from a position on
  abbrev pub from : ℕ → Bool
  from p = scan s (length s) p

  -- with one head more to go
  once_more : (p : ℕ) → from p ≡ scan s (suc (length s)) p
  once_more p = enough (length s) (suc (length s)) p (omega arith) (omega arith)

  pub goes : (p : ℕ) → p < length s → from p ≡ (not (is_shortest (head_at s p)) || from (behind s (head_at s p)))
  unfolding scan
  goes p l = once_more p ∙ rw (lt-ltb p (length s) l)

  pub ends : (p : ℕ) → length s ≤ p → from p ≡ false
  unfolding scan
  ends p l = once_more p ∙ rw (le-ltb p (length s) l)

  -- ---- heads that are passed without their number being read

  first_byte : (p b : ℕ) → b ≡ get_or s p 0 → p < length s → b % 32 < 24 → head_at s p ≡ head_with (b / 32) (b % 32) (b % 32) (p + 1)
  unfolding head_at head_of head_value
  first_byte p b e l h =
      let none : width (b % 32) ≡ 0 = width-none (b % 32) (lt-ltb (b % 32) 24 h) in
      let next : p + 1 + width (b % 32) ≡ p + 1 = omega arith in
      rw (← e, lt-leb 28 (b % 32) (omega arith), next, le-ltb (length s) (p + 1) (omega arith), lt-ltb (b % 32) 24 h)

  -- the first byte holds the number
  pub by_first : (p b q : ℕ) → b ≡ get_or s p 0 → p < length s → b % 32 < 24 → q ≡ behind_of s (b / 32) (b % 32) (p + 1) → (p < q) × (from p ≡ from q)
  unfolding shortest
  by_first p b q e l h r =
      let read = first_byte p b e l h in
      let ahead : p < behind s (head_at s p) = behind-ahead p (head_at s p) (head-ahead s p) l in
      (rw r (rw read at ahead), goes p l ∙ rw (read, lt-ltb (b % 32) 24 h, eq-eqb (b % 32) (b % 32) refl, ← r))

  -- a head with w bytes behind its first
  wide-head : (p b w : ℕ) → b ≡ get_or s p 0 → 24 ≤ b % 32 → b % 32 < 28 → width (b % 32) ≡ w → p + 1 + w ≤ length s
      → head_at s p ≡ head_with (b / 32) (b % 32) (big_endian s (p + 1) w) (p + 1 + w)
  unfolding head_at head_of head_value
  wide-head p b w e h k q l = rw (← e, lt-leb 28 (b % 32) k, q, le-ltb (length s) (p + 1 + w) l, le-ltb (b % 32) 24 h)

  one_byte : (p : ℕ) → big_endian s p 1 ≡ get_or s p 0
  unfolding big_endian
  one_byte p =
      let here : p + 0 ≡ p = omega arith in
      rw here (zero-add (get_or s p 0))

  one_width : (info : ℕ) → info ≡ 24 → width info ≡ 1
  unfolding width
  one_width info e = rw e refl

  -- one byte behind the first holds it, and it is above what the first can hold
  pub by-second : (p b n r : ℕ) → b ≡ get_or s p 0 → n ≡ get_or s (p + 1) 0 → n < 256 → p + 1 < length s → b % 32 ≡ 24 → 24 ≤ n → r ≡ behind_of s (b / 32) n (p + 1 + 1) → Skips s p r
  unfolding shortest
  by-second p b n r e f small l h k q =
      let read : head_at s p ≡ head_with (b / 32) (b % 32) n (p + 1 + 1) =
      wide-head p b 1 e (omega arith) (omega arith) (one_width (b % 32) h) (omega arith) ∙ rw (one_byte (p + 1), f) in
      record { shortest = rw (read, le-ltb n 24 k, lt-ltb n 256 small, h); on = rw read q }

  -- a byte that is not 0 makes the number large
  large : (at w i : ℕ) → i < w → 0 < get_or s (at + i) 0 → 256 ^ (w - 1 - i) ≤ big_endian s at w
  unfolding big_endian
  large at zero i l h = absurd (omega arith)
  large at (suc w) i l h = by (eqb i w) refl (λ below. large at w i below h)
    where
      by : (t : Bool) → eqb i w ≡ t → (i < w → 256 ^ (w - 1 - i) ≤ big_endian s at w) → 256 ^ (suc w - 1 - i) ≤ big_endian s at w * 256 + get_or s (at + w) 0
      by true e before =
          let same : i ≡ w = eqb-true i w e in
          let none : suc w - 1 - i ≡ 0 = omega arith in
          let here : 0 < get_or s (at + w) 0 = rw same at h in
          rw (none, pow-zero) (omega arith)
      by false e before =
          let below : i < w = omega (arith, eqb-false i w e) in
          let more : suc w - 1 - i ≡ suc (w - 1 - i) = omega arith in
          rw (more, pow-suc) (omega (arith, before below))

  -- half of the bytes behind the first cannot hold it, for one of them is not 0
  pub by_half : (p h i r : ℕ) → Halved s p h → p + 1 + 2 * h ≤ length s → ((j : ℕ) → get_or s j 0 < 256) → i < h → 0 < get_or s (p + 1 + i) 0
      → r ≡ p + 1 + 2 * h → Skips s p r
  by_half p h i r f l bytes k some q =
      let b : ℕ = get_or s p 0 in
      let w : ℕ = 2 * h in
      let read = wide-head p b w refl f.wide f.known f.twice l in
      let least : 256 ^ (w - 1 - i) ≤ big_endian s (p + 1) w = large (p + 1) w i (omega arith) some in
      let half : 256 ^ h ≤ 256 ^ (w - 1 - i) = pow-le-pow_right (lit< tt) (omega arith) in
      let is = f.told (big_endian s (p + 1) w) (omega arith) (big_below s bytes (p + 1) w) in
      record { shortest = rw (read, is) (eq-eqb (b % 32) (b % 32) refl); on = rw (read, ne_eqb (b / 32) 2 f.other) q }

  pub goes_on : (p q : ℕ) → p < length s → Skips s p q → from p ≡ from q
  goes_on p q l h = goes p l ∙ rw (h.shortest, ← h.on)

  -- ---- a turn of the loop, at a head h

  module _ (p : ℕ) (l : p < length s) (h : Option Head) (read : h ≡ head_at s p) where
    pub nearer : (q : ℕ) → q ≡ behind s h → length s - q < length s - p
    nearer q e = let a = behind-ahead p (head_at s p) (head-ahead s p) l in rw (e, read) (omega arith)

    pub turn : (a : Bool) → a ≡ is_shortest h → from p ≡ (not a || from (behind s h))
    turn a e = rw (e, read) (goes p l)

  -- ---- an item's heads

  -- the position behind them: where the item ends, or where its first element stands
  abbrev inside : Option Item → Option ℕ
  inside (Some (Unsigned n next)) = Some next
  inside (Some (Negative n next)) = Some next
  inside (Some (Bytes start next)) = Some next
  inside (Some (Simple next)) = Some next
  inside (Some (Array n at)) = Some at
  inside (Some (Map n at)) = Some at
  inside (Some (Set n at)) = Some at
  inside None = None

  -- a head that was read begins before the end
  begins : (p major info n next : ℕ) → head_at s p ≡ head_with major info n next → p < length s
  begins p major info n next e = let a = subst (Head_ahead s p) e (head-ahead s p) in omega arith

  passed : (p major info n next : ℕ) → head_at s p ≡ head_with major info n next → from p ≡ (not (is_shortest (head_with major info n next)) || from (behind s (head_with major info n next)))
  passed p major info n next e = goes p (begins p major info n next e) ∙ rw e

  no_place : {q : ℕ} → None ≡ Some q → ⊥
  no_place e = subst refused e tt
    where
      refused : Option ℕ → Type 0
      refused None = Unit {0}
      refused (Some q) = ⊥

  at_inj : {p q : ℕ} → Some p ≡ Some q → p ≡ q
  at_inj {p} e = ap (λ (x : Option ℕ). position x) e
    where
      position : Option ℕ → ℕ
      position (Some q) = q
      position None = p

  module _ (p major info n next : ℕ) (read : head_at s p ≡ head_with major info n next) where
    -- what the scan makes of an item of this head, from which it goes on at q
    abbrev Scans : Option Item → Type 0
    Scans x = (q : ℕ) → inside x ≡ Some q → from p ≡ (loose_heads s (head_with major info n next) || from q)

    -- neither a byte string nor a tag
    plain : (k : ℕ) → (k ≡ 2 → ⊥) → (k ≡ 6 → ⊥) → major ≡ k → (q : ℕ) → Some next ≡ Some q → from p ≡ (loose_heads s (head_with major info n next) || from q)
    plain k a b e q h =
        let no_bytes : eqb major 2 ≡ false = ne_eqb major 2 (λ f. a (sym e ∙ f)) in
        let no-tag : eqb major 6 ≡ false = ne_eqb major 6 (λ f. b (sym e ∙ f)) in
        passed p major info n next read ∙ rw (no_bytes, no-tag, at_inj h, or_false (not (is_shortest (head_with major info n next))))

    string : major ≡ 2 → Scans (bytes_at s n next)
    unfolding bytes_at end_of
    string e = by (ltb (length s) (next + n)) refl
      where
        by : (t : Bool) → ltb (length s) (next + n) ≡ t → Scans (cond t None (Some (Bytes next (next + n))))
        by true f q h = absurd (no_place h)
        by false f q h = passed p major info n next read ∙ rw (e, f, at_inj h, or_false (not (is_shortest (head_with major info n next))))

    set : (h : Option Head) → head_at s next ≡ h → major ≡ 6 → Scans (set_of h)
    set None r e = λ q h. absurd (no_place h)
    set (Some a) r e = by (eqb a.major 4) refl
      where
        by : (t : Bool) → eqb a.major 4 ≡ t → Scans (cond t (Some (Set a.value a.next)) None)
        by false f q h = absurd (no_place h)
        by true f q h =
            let major-is : a.major ≡ 4 = eqb-true a.major 4 f in
            let no_bytes : eqb a.major 2 ≡ false = ne_eqb a.major 2 (λ g. let z : ⊥ = omega arith in z) in
            passed p major info n next read ∙ rw (e, passed next a.major a.info a.value a.next r, no_bytes, r, at_inj h)
            (sym (or_assoc (not (is_shortest (head_with 6 info n next))) (not (is_shortest (Some a))) (from q)))

    tag : major ≡ 6 → Scans (tagged s n next)
    unfolding tagged
    tag e = by_test Scans (eqb n 258) (λ f. set (head_at s next) refl e) (λ f q h. absurd (no_place h))

    item : Scans (item_of s (head_with major info n next))
    item =
        by_test Scans (eqb major 0) (λ e. plain 0 (λ z. absurd (omega arith)) (λ z. absurd (omega arith)) (eqb-true major 0 e)) (λ e.
        by_test Scans (eqb major 1) (λ e. plain 1 (λ z. absurd (omega arith)) (λ z. absurd (omega arith)) (eqb-true major 1 e)) (λ e.
        by_test Scans (eqb major 2) (λ e. string (eqb-true major 2 e)) (λ e.
        by_test Scans (eqb major 4) (λ e. plain 4 (λ z. absurd (omega arith)) (λ z. absurd (omega arith)) (eqb-true major 4 e)) (λ e.
        by_test Scans (eqb major 5) (λ e. plain 5 (λ z. absurd (omega arith)) (λ z. absurd (omega arith)) (eqb-true major 5 e)) (λ e.
        by_test Scans (eqb major 6) (λ e. tag (eqb-true major 6 e)) (λ e.
        by_test Scans (eqb major 7) (λ e.
        by_test Scans (leb 20 info) (λ f. by_test Scans (leb info 22) (λ g. plain 7 (λ z. absurd (omega arith)) (λ z. absurd (omega arith)) (eqb-true major 7 e)) (λ g q h. absurd (no_place h))) (λ f q h. absurd (no_place h))) (λ e q h. absurd (no_place h))))))))

  -- ---- the readers

  -- what r reads the scan passes, and finds a loose head there as q says
  pub record Passes (r : Reader) (q : Question) : Type 0 where
    pub passes : (p o : ℕ) → r p ≡ Some o → from p ≡ (q p || from o)

  item-passes : (p o : ℕ) → inside (item_at s p) ≡ Some o → from p ≡ (loose_item s p || from o)
  unfolding item_at loose_item
  item-passes p o = by (head_at s p) refl
    where
      by : (h : Option Head) → head_at s p ≡ h → inside (item_of s h) ≡ Some o → from p ≡ (loose_heads s h || from o)
      by None e f = absurd (no_place f)
      by (Some h) e f = item p h.major h.info h.value h.next e o f

  scalar_inside : (x : Option Item) (o : ℕ) → scalar_of x ≡ Some o → inside x ≡ Some o
  scalar_inside (Some (Unsigned n next)) o e = e
  scalar_inside (Some (Negative n next)) o e = e
  scalar_inside (Some (Bytes start next)) o e = e
  scalar_inside (Some (Simple next)) o e = e
  scalar_inside (Some (Array n at)) o e = absurd (no_place e)
  scalar_inside (Some (Map n at)) o e = absurd (no_place e)
  scalar_inside (Some (Set n at)) o e = absurd (no_place e)
  scalar_inside None o e = absurd (no_place e)

  key-passes : Passes (key s) (loose_item s)
  unfolding key
  key-passes = record { passes = λ p o e. item-passes p o (scalar_inside (item_at s p) o e) }

  -- one reader after another: what x read the scan passed, and goes on as the next does
  then_passes : (p o : ℕ) (a : Bool) (x : Option ℕ) (r : Reader) (q : Question)
      → ((m : ℕ) → x ≡ Some m → from p ≡ (a || from m)) → ((m : ℕ) → r m ≡ Some o → from m ≡ (q m || from o))
      → and_then x r ≡ Some o → from p ≡ ((a || onward x q) || from o)
  then_passes p o a None r q f g e = absurd (no_place e)
  then_passes p o a (Some m) r q f g e = f m refl ∙ rw (g m e) (sym (or_assoc a (q m) (from o)))

  pub pair-passes : {r : Reader} {q : Question} → Passes r q → Passes (pair s r) (loose_pair s q)
  unfolding pair loose_pair
  pair-passes {r} {q} h = record { passes = λ p o. then_passes p o (loose_item s p) (key s p) r q (key-passes.passes p) (λ m. h.passes m o) }

  pub repeat-passes : {r : Reader} {q : Question} → Passes r q → (n : ℕ) → Passes (repeat n r) (any_of n r q)
  unfolding repeat any_of
  repeat-passes h zero = record { passes = λ p o e. ap from (at_inj e) }
  repeat-passes {r} {q} h (suc n) =
      let rest = repeat-passes h n in
      record { passes = λ p o. then_passes p o (q p) (r p) (repeat n r) (any_of n r q) (h.passes p) (λ m. rest.passes m o) }

  -- a container: its heads, then its elements
  elements_pass : (p at o : ℕ) (r : Reader) (q : Question) → Passes r q → (from p ≡ (loose_item s p || from at)) → r at ≡ Some o → from p ≡ ((loose_item s p || q at) || from o)
  elements_pass p at o r q h e f = e ∙ rw (h.passes at o f) (sym (or_assoc (loose_item s p) (q at) (from o)))

  scalar_passes : (p o : ℕ) → from p ≡ (loose_item s p || from o) → from p ≡ ((loose_item s p || false) || from o)
  scalar_passes p o e = e ∙ rw (or_false (loose_item s p))

  value_of-passes : {r : Reader} {q : Question} → Passes r q → (p o : ℕ) (x : Option Item)
      → ((m : ℕ) → inside x ≡ Some m → from p ≡ (loose_item s p || from m)) → value_of s r x ≡ Some o → from p ≡ ((loose_item s p || loose_elements s r q x) || from o)
  value_of-passes h p o (Some (Unsigned n next)) f e = scalar_passes p o (f o e)
  value_of-passes h p o (Some (Negative n next)) f e = scalar_passes p o (f o e)
  value_of-passes h p o (Some (Bytes start next)) f e = scalar_passes p o (f o e)
  value_of-passes h p o (Some (Simple next)) f e = scalar_passes p o (f o e)
  value_of-passes {r} {q} h p o (Some (Array n at)) f e = elements_pass p at o (repeat n r) (any_of n r q) (repeat-passes h n) (f at refl) e
  value_of-passes {r} {q} h p o (Some (Map n at)) f e =
      elements_pass p at o (repeat n (pair s r)) (any_of n (pair s r) (loose_pair s q)) (repeat-passes (pair-passes h) n) (f at refl) e
  value_of-passes h p o (Some (Set n at)) f e = elements_pass p at o (repeat n (key s)) (any_of n (key s) (loose_item s)) (repeat-passes key-passes n) (f at refl) e
  value_of-passes h p o None f e = absurd (no_place e)

  pub value_passes : (levels : ℕ) → Passes (value s levels) (loose s levels)
  unfolding value loose
  value_passes zero = key-passes
  value_passes (suc l) = let h = value_passes l in record { passes = λ p o. value_of-passes h p o (item_at s p) (λ m. item-passes p m) }

  -- ---- bytes that are read to their end

  pub all-passed : {r : Reader} {q : Question} → Passes r q → whole s (r 0) ≡ true → scanned s ≡ q 0
  unfolding scanned
  all-passed {r} {q} h = by (r 0) refl
    where
      by : (x : Option ℕ) → r 0 ≡ x → whole s x ≡ true → from 0 ≡ q 0
      by None e f = absurd (false≢true f)
      by (Some o) e f =
          let end : o ≡ length s = eqb-true o (length s) f in
          h.passes 0 o e ∙ rw (ends o (omega arith)) (or_false (q 0))

pub scan_holds : ScanHolds
unfolding is_item
scan_holds s h = all-passed s (value_passes s 8) h
