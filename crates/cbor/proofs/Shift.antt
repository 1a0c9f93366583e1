-- Reading behind a prefix: what is read at a position of s is read in p ++ s that many places further on. One law for each reader; a
-- `shifted` moves the positions of what was found.
-- Assumes nothing.
use Rattle.std.specs.Prelude.{Option, None, Some}
use mathlib.Core.Path.{◌≡◌, refl}
use mathlib.Core.Bool.{Bool, true, false, cond}
use mathlib.Core.List.{List, ◌++◌}
use Prim.Native.Nat.{ℕ, zero, suc, ◌+◌}
use native.Mathlib.Nat.{add_assoc}
use native.Mathlib.Omega.{arith}
use lib.ListN.{length, length-append}
use lib.Seq.{get_or-append-add}
use lib.Dec.{ltb, leb, eqb}
use borrow.Author.Tests.{ltb-true, ltb-false, lt-ltb, le-ltb, eqb-true, eqb-false, eq-eqb, ne_eqb}
use Rattle.cbor.specs.declared.Head.{Head}
use Rattle.cbor.specs.declared.Item.{Item}
use Rattle.cbor.specs.declared.Item.TheVariants.{Unsigned, Negative, Bytes, Simple, Array, Map, Set}
use Rattle.cbor.specs.Cbor.{Reader, width, big_endian, head_value, head_of, head_at, bytes_at, simple, set_of, tagged, item_of, item_at, and_then, repeat, scalar_of, key, pair, value_of, value, whole}

-- positions n places further on
module _ (n : ℕ) where
  abbrev pub shifted_head : Option Head → Option Head
  shifted_head None = None
  shifted_head (Some h) = Some (record h { next = n + h.next })

  abbrev pub shifted_item : Option Item → Option Item
  shifted_item (Some (Unsigned v next)) = Some (Unsigned v (n + next))
  shifted_item (Some (Negative v next)) = Some (Negative v (n + next))
  shifted_item (Some (Bytes start stop)) = Some (Bytes (n + start) (n + stop))
  shifted_item (Some (Simple next)) = Some (Simple (n + next))
  shifted_item (Some (Array k at)) = Some (Array k (n + at))
  shifted_item (Some (Map k at)) = Some (Map k (n + at))
  shifted_item (Some (Set k at)) = Some (Set k (n + at))
  shifted_item None = None

  abbrev pub shifted : Option ℕ → Option ℕ
  shifted (Some p) = Some (n + p)
  shifted None = None

-- a function of a choice, where it is known of both
pub of_both : {A B : Type 0} (f : A → B) (b : Bool) {x y : A} {x' y' : B} → x' ≡ f x → y' ≡ f y → cond b x' y' ≡ f (cond b x y)
of_both f true h k = h
of_both f false h k = k

-- tests of positions: both sides n further on
pub ltb_shift : (n a b : ℕ) → ltb (n + a) (n + b) ≡ ltb a b
ltb_shift n a b = by (ltb a b) refl
  where
    by : (t : Bool) → ltb a b ≡ t → ltb (n + a) (n + b) ≡ t
    by true h = let k = ltb-true a b h in lt-ltb (n + a) (n + b) (omega arith)
    by false h = let k = ltb-false a b h in le-ltb (n + a) (n + b) (omega arith)

pub eqb_shift : (n a b : ℕ) → eqb (n + a) (n + b) ≡ eqb a b
eqb_shift n a b = by (eqb a b) refl
  where
    by : (t : Bool) → eqb a b ≡ t → eqb (n + a) (n + b) ≡ t
    by true h = let k = eqb-true a b h in eq-eqb (n + a) (n + b) (omega arith)
    by false h = let k = eqb-false a b h in ne_eqb (n + a) (n + b) (λ e. k (omega arith))

module _ (p s : List ℕ) where
  abbrev past : ℕ
  past = length p

  -- the end, seen from a position
  fits_shift : (at : ℕ) → ltb (length (p ++ s)) (past + at) ≡ ltb (length s) at
  fits_shift at = rw length-append (ltb_shift past (length s) at)

  pub big_endian_shift : (at n : ℕ) → big_endian (p ++ s) (past + at) n ≡ big_endian s at n
  unfolding big_endian
  big_endian_shift at zero = refl
  big_endian_shift at (suc n) = rw (big_endian_shift at n, add_assoc past at n, get_or-append-add p s (at + n) 0)

  value_shift : (at info : ℕ) → head_value (p ++ s) (past + at) info ≡ head_value s at info
  unfolding head_value
  value_shift at info = rw (add_assoc past at 1, big_endian_shift (at + 1) (width info))

  head_of_shift : (at major info : ℕ) → head_of (p ++ s) (past + at) major info ≡ shifted_head past (head_of s at major info)
  unfolding head_of
  head_of_shift at major info =
      let e : past + at + 1 + width info ≡ past + (at + 1 + width info) = omega arith in
      rw (e, fits_shift (at + 1 + width info), value_shift at info)
      (of_both (shifted_head past) (leb 28 info) refl (of_both (shifted_head past) (ltb (length s) (at + 1 + width info)) refl refl))

  pub head_shift : (at : ℕ) → head_at (p ++ s) (past + at) ≡ shifted_head past (head_at s at)
  unfolding head_at
  head_shift at = rw (get_or-append-add p s at 0) (head_of_shift at _ _)

  bytes_shift : (n at : ℕ) → bytes_at (p ++ s) n (past + at) ≡ shifted_item past (bytes_at s n at)
  unfolding bytes_at
  bytes_shift n at = rw (add_assoc past at n, fits_shift (at + n)) (of_both (shifted_item past) (ltb (length s) (at + n)) refl refl)

  set_shift : (h : Option Head) → set_of (shifted_head past h) ≡ shifted_item past (set_of h)
  set_shift None = refl
  set_shift (Some h) = of_both (shifted_item past) (eqb h.major 4) refl refl

  tag_shift : (n at : ℕ) → tagged (p ++ s) n (past + at) ≡ shifted_item past (tagged s n at)
  unfolding tagged
  tag_shift n at = rw (head_shift at) (of_both (shifted_item past) (eqb n 258) (set_shift (head_at s at)) refl)

  simple_shift : (info next : ℕ) → simple info (past + next) ≡ shifted_item past (simple info next)
  simple_shift info next = of_both (shifted_item past) (leb 20 info) (of_both (shifted_item past) (leb info 22) refl refl) refl

  item_of_shift : (h : Option Head) → item_of (p ++ s) (shifted_head past h) ≡ shifted_item past (item_of s h)
  item_of_shift None = refl
  item_of_shift (Some h) =
      of_both (shifted_item past) (eqb h.major 0) refl
      (of_both (shifted_item past) (eqb h.major 1) refl
      (of_both (shifted_item past) (eqb h.major 2) (bytes_shift h.value h.next)
      (of_both (shifted_item past) (eqb h.major 4) refl
      (of_both (shifted_item past) (eqb h.major 5) refl
      (of_both (shifted_item past) (eqb h.major 6) (tag_shift h.value h.next)
      (of_both (shifted_item past) (eqb h.major 7) (simple_shift h.info h.next) refl))))))

  pub item_shift : (at : ℕ) → item_at (p ++ s) (past + at) ≡ shifted_item past (item_at s at)
  unfolding item_at
  item_shift at = rw (head_shift at) (item_of_shift (head_at s at))

  -- a reader of p ++ s that reads what one of s does, so much further on
  pub record Shifts (r' r : Reader) : Type 0 where
    pub shift : (at : ℕ) → r' (past + at) ≡ shifted past (r at)

  scalar_shift : (x : Option Item) → scalar_of (shifted_item past x) ≡ shifted past (scalar_of x)
  scalar_shift (Some (Unsigned n next)) = refl
  scalar_shift (Some (Negative n next)) = refl
  scalar_shift (Some (Bytes start stop)) = refl
  scalar_shift (Some (Simple next)) = refl
  scalar_shift (Some (Array n at)) = refl
  scalar_shift (Some (Map n at)) = refl
  scalar_shift (Some (Set n at)) = refl
  scalar_shift None = refl

  pub key_shifts : Shifts (key (p ++ s)) (key s)
  unfolding key
  key_shifts = record { shift = λ at. rw (item_shift at) (scalar_shift (item_at s at)) }

  then_shift : {r' r : Reader} → Shifts r' r → (x : Option ℕ) → and_then (shifted past x) r' ≡ shifted past (and_then x r)
  then_shift h None = refl
  then_shift h (Some q) = h.shift q

  pub pair_shifts : {r' r : Reader} → Shifts r' r → Shifts (pair (p ++ s) r') (pair s r)
  unfolding pair
  pair_shifts h = record { shift = λ at. rw (key_shifts.shift at) (then_shift h (key s at)) }

  pub repeat_shifts : {r' r : Reader} → Shifts r' r → (n : ℕ) → Shifts (repeat n r') (repeat n r)
  unfolding repeat
  repeat_shifts h zero = record { shift = λ at. refl }
  repeat_shifts {r} h (suc n) = record { shift = λ at. rw (h.shift at) (then_shift (repeat_shifts h n) (r at)) }

  value_of_shift : {r' r : Reader} → Shifts r' r → (x : Option Item) → value_of (p ++ s) r' (shifted_item past x) ≡ shifted past (value_of s r x)
  value_of_shift h (Some (Unsigned n next)) = refl
  value_of_shift h (Some (Negative n next)) = refl
  value_of_shift h (Some (Bytes start stop)) = refl
  value_of_shift h (Some (Simple next)) = refl
  value_of_shift h (Some (Array n at)) = (repeat_shifts h n).shift at
  value_of_shift h (Some (Map n at)) = (repeat_shifts (pair_shifts h) n).shift at
  value_of_shift h (Some (Set n at)) = (repeat_shifts key_shifts n).shift at
  value_of_shift h None = refl

  pub value_shifts : (levels : ℕ) → Shifts (value (p ++ s) levels) (value s levels)
  unfolding value
  value_shifts zero = key_shifts
  value_shifts (suc l) = record { shift = λ at. rw (item_shift at) (value_of_shift (value_shifts l) (item_at s at)) }

  -- a reader came to the end
  pub whole_shift : (x : Option ℕ) → whole (p ++ s) (shifted past x) ≡ whole s x
  whole_shift None = refl
  whole_shift (Some q) = rw length-append (eqb_shift past q (length s))
