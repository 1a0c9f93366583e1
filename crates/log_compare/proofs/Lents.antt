-- Two lent logs compared: what is said of the records at a place, and which log is broken. Assumes nothing.
use Rattle.std.proofs.Common.{◌≡◌, ℕ, suc, ◌+◌, ◌-◌, ◌^◌, ◌<◌, ◌≤◌, Bool, true, false, cond, not, List, ◌∷◌, length, take, drop, refl, ap, ◌∙◌, add-zero, arith, length-drop, length-take-le, take_all, drop-cons, drop-drop, eq-eqb, ne_eqb}
use Rattle.keys.specs.Keys.{part, equal}
use Rattle.logs.specs.Logs.{Stored, claimed, size, is_there, first_of, records, whole_length, is_whole}
use Rattle.logs.proofs.Walk.{there, more, last, body-length}
use Rattle.buffer.proofs.WriteLaws.{take_of_drop}
use Rattle.log_compare.specs.Entries.{content, same, Fault, broken_of}
use Rattle.log_compare.specs.Breaks.{break_of}
use Rattle.log_compare.specs.Partial.{under_way}
use Rattle.log_compare.specs.Places.{moved_to, bytes_in, found, find_from, next_of}
use Rattle.log_compare.specs.Scan.{Scanned, unread, scan_of, scan_view}
use Rattle.log_compare.specs.declared.Entry.TheVariants.{Both, First, Second}
use Rattle.std.specs.Prelude.{Some, None}
use Rattle.log_compare.specs.declared.Place.{Place}
use Rattle.log_compare.specs.declared.Scanning.{Scanning}
use Rattle.log_compare.proofs.Scans.{where_it_ends, place_of, between}

-- ---- the bytes of a log from a place on

pub rest-is : (s : List ℕ) (at : ℕ) → part s at (length s) ≡ drop at s
unfolding part
rest-is s at = take_all (length s - at) (drop at s) (omega (arith, length-drop at s))

-- the rest of some bytes, as the code takes it
pub tail-is : (r : List ℕ) → take (length r - 4) (drop 4 r) ≡ drop 4 r
tail-is r = take_all (length r - 4) (drop 4 r) (omega (arith, length-drop 4 r))

-- ---- a record r in front of some bytes t: its kind and body, and its length

module _ (t r : List ℕ) (f : (is_there 4 t ≡ true) × (r ≡ take (size 4 t) t)) where
  abbrev this : Stored
  this = first_of 4 t

  this-length : length r ≡ size 4 t
  this-length = rw (f.1) (length-take-le (size 4 t) t (there 4 t f.0))

  pub within : length r ≤ length t
  within = omega (arith, this-length, there 4 t f.0)

  pub least : 6 ≤ length r
  least = omega (arith, this-length)

  pub content-is : drop 4 r ≡ content this
  unfolding content first_of
  content-is =
      let n = claimed 4 t in
      let l = there 4 t f.0 in
      let z : size 4 t ≡ 4 + suc (suc n) = omega arith in
      rw (f.1, z, ← take_of_drop (suc (suc n)) 4 t, drop-cons t 4 0 (omega arith), drop-cons t 5 0 (omega arith))

  body_is : length this.body ≡ length r - 6
  body_is = body-length 4 t f.0 ∙ omega (arith, this-length)

  bytes_are : bytes_in this ≡ length r
  unfolding bytes_in
  bytes_are = omega (arith, body_is, least)

  behind-it : records 4 t ≡ this ∷ records 4 (drop (length r) t)
  behind-it = rw this-length (more 4 t f.0)

-- ---- what is said at a place

module _ (p : Place) (a b : List ℕ) where
  abbrev one : List ℕ
  one = drop p.first a

  abbrev two : List ℕ
  two = drop p.second b

  module _ (r q : List ℕ) (f : (is_there 4 one ≡ true) × (r ≡ take (size 4 one) one)) (g : (is_there 4 two ≡ true) × (q ≡ take (size 4 two) two)) where
    pub both-there : next_of p a b ≡ cond (equal (drop 4 r) (drop 4 q)) (next_of (moved_to p (p.first + length r) (p.second + length q)) a b)
        (found (Both p.number (length r - 6) (length q - 6)) (moved_to p (p.first + length r) (p.second + length q)))
    unfolding next_of find_from same moved_to
    both-there =
        rw (behind-it one r f, behind-it two q g, drop-drop (length r) p.first a, drop-drop (length q) p.second b)
        (rw (bytes_are one r f, bytes_are two q g, content-is one r f, content-is two q g)
        (rw (body_is one r f, body_is two q g) refl))

    pub says_both : equal (drop 4 r) (drop 4 q) ≡ false
        → next_of p a b ≡ found (Both p.number (length r - 6) (length q - 6)) (moved_to p (p.first + length r) (p.second + length q))
    says_both e = both-there ∙ rw e

    pub goes_on : equal (drop 4 r) (drop 4 q) ≡ true → next_of p a b ≡ next_of (moved_to p (p.first + length r) (p.second + length q)) a b
    goes_on e = both-there ∙ rw e

  module _ (r : List ℕ) (f : (is_there 4 one ≡ true) × (r ≡ take (size 4 one) one)) (m : is_there 4 two ≡ false) where
    pub first-there : next_of p a b ≡ found (First p.number (length r - 6)) (moved_to p (p.first + length r) p.second)
    unfolding next_of find_from moved_to
    first-there =
        rw (behind-it one r f, last 4 two m)
        (rw (bytes_are one r f, add-zero p.second) (rw (body_is one r f) refl))

  module _ (q : List ℕ) (m : is_there 4 one ≡ false) (g : (is_there 4 two ≡ true) × (q ≡ take (size 4 two) two)) where
    pub second-there : next_of p a b ≡ found (Second p.number (length q - 6)) (moved_to p p.first (p.second + length q))
    unfolding next_of find_from moved_to
    second-there =
        rw (behind-it two q g, last 4 one m)
        (rw (bytes_are two q g, add-zero p.first) (rw (body_is two q g) refl))

  pub none-there : is_there 4 one ≡ false → is_there 4 two ≡ false → next_of p a b ≡ record { said = None; next = p }
  unfolding next_of find_from
  none-there m n = rw (last 4 one m, last 4 two n)

-- ---- which log is broken

-- what a reading of a whole log tells
pub record Ended (s : Scanning) (log : List ℕ) : Type 0 where
  pub start : s.start ≡ whole_length 4 log
  pub place : s.place ≡ length log

pub ended : (s : Scanning) (log : List ℕ) → length log < 2 ^ 64 → scan_view s ≡ scan_of (scan_view unread) log → Ended s log
unfolding scan_view under_way
ended s log l e = record {
  start = ap (λ (t : Scanned). t.start) e ∙ where_it_ends log l;
  place = ap (λ (t : Scanned). t.place) e ∙ place_of (between 0) log (omega arith) ∙ omega arith;
}

-- where it is broken
module _ (log : List ℕ) where
  pub is-broken : (whole_length 4 log ≡ length log → ⊥) → break_of log ≡ Some (whole_length 4 log)
  unfolding break_of is_whole
  is-broken h = rw (ne_eqb (whole_length 4 log) (length log) h)

  pub not_broken : whole_length 4 log ≡ length log → break_of log ≡ None
  unfolding break_of is_whole
  not_broken h = rw (eq-eqb (whole_length 4 log) (length log) h)

module _ (a b : List ℕ) where
  first-by-test : (t : Bool) (n m : ℕ) (rest : Fault) → cond t None (Some n) ≡ Some m → cond (not t) (record { log = 1; place = n }) rest ≡ record { log = 1; place = m }
  first-by-test true n m rest e = absurd (cc)
  first-by-test false n m rest e = let k : n ≡ m = cc in rw k

  pub first-broken : (m : ℕ) → break_of a ≡ Some m → broken_of a b ≡ record { log = 1; place = m }
  unfolding break_of broken_of
  first-broken m e = first-by-test (is_whole 4 a) (whole_length 4 a) m _ e

  whole-by-test : (t : Bool) (n : ℕ) → cond t None (Some n) ≡ None → t ≡ true
  whole-by-test true n e = refl
  whole-by-test false n e = absurd (cc)

  module _ (h : break_of a ≡ None) where
    whole-first : is_whole 4 a ≡ true
    unfolding break_of
    whole-first = whole-by-test (is_whole 4 a) (whole_length 4 a) h

    second-by-test : (t : Bool) (n m : ℕ) (rest : Fault) → cond t None (Some n) ≡ Some m → cond (not t) (record { log = 2; place = n }) rest ≡ record { log = 2; place = m }
    second-by-test true n m rest e = absurd (cc)
    second-by-test false n m rest e = let k : n ≡ m = cc in rw k

    pub second-broken : (m : ℕ) → break_of b ≡ Some m → broken_of a b ≡ record { log = 2; place = m }
    unfolding break_of broken_of
    second-broken m e = rw whole-first (second-by-test (is_whole 4 b) (whole_length 4 b) m _ e)

    pub none-broken : break_of b ≡ None → broken_of a b ≡ record { log = 0; place = 0 }
    unfolding break_of broken_of
    none-broken e = rw (whole-first, whole-by-test (is_whole 4 b) (whole_length 4 b) e)
