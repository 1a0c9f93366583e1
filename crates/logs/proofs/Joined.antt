-- A whole log is the join of its records' bytes, the join of records reads as those records, and bodies are as short as their length field
-- says; what feed writes is a record of width 4. Assumes nothing.
use Prim.Native.Nat.{ℕ, ◌+◌, ◌/◌, ◌^◌, ◌<◌}
use native.Mathlib.Omega.{arith}
use mathlib.Core.Path.{◌≡◌, refl, sym, ap, ◌∙◌}
use mathlib.Core.Bool.{true, false}
use mathlib.Core.List.{List, [], ◌∷◌, ◌++◌, append_assoc}
use borrow.Author.Tests.{eqb-true, eq-eqb, le-leb}
use lib.ListN.{length, get_or, drop, length-append, length-drop, take-append-drop}
use lib.Seq.{take_at, drop_at, get_or_at, get_or-append-add, drop-append-add}
use Rattle.frame.specs.Records.{record_of}
use Rattle.fields.specs.Fields.{number}
use Rattle.fields.specs.Laws.{AreBytes, AllFit}
use Rattle.fields.proofs.FieldLaws.{bytes_drop, number_lawful, number_size, number_small}
use Rattle.logs.specs.Logs.{Stored, stored_bytes, log_of, claimed, size, is_there, first_of, records_from, records, whole_length, is_whole, whole, read_log}
use Rattle.logs.specs.Laws.{Joined, ShortBody, ReadBack, FeedWrites}
use Rattle.logs.proofs.Walk.{there, more, last, stored-length, first-length, body-length, first, by_record}

-- ---- one record and the rest

pub whole_length_lem : (w : ℕ) (s : List ℕ) → is_whole w s ≡ true → whole_length w s ≡ length s
unfolding is_whole
whole_length_lem w s h = eqb-true (whole_length w s) (length s) h

length_whole : (w : ℕ) (s : List ℕ) → whole_length w s ≡ length s → is_whole w s ≡ true
unfolding is_whole
length_whole w s h = eq-eqb (whole_length w s) (length s) h

module _ (w : ℕ) (s : List ℕ) (h : is_there w s ≡ true) where
  pub length_more : whole_length w s ≡ size w s + whole_length w (drop (size w s) s)
  unfolding whole_length log_of
  length_more = rw (more w s h) (length-append (stored_bytes w (first_of w s)) (log_of w (records_from w 0 (drop (size w s) s))) ∙ rw (first-length w s h w))

  whole-more : is_whole w s ≡ true → is_whole w (drop (size w s) s) ≡ true
  whole-more k = length_whole w (drop (size w s) s) (omega (arith, there w s h, length_more, whole_length_lem w s k, length-drop (size w s) s))

pub length_last : (w : ℕ) (s : List ℕ) → is_there w s ≡ false → whole_length w s ≡ 0
unfolding whole_length log_of
length_last w s h = rw (last w s h)

-- ---- a whole log is the join of its records' bytes

empty : (s : List ℕ) → length s ≡ 0 → s ≡ []
empty [] h = refl
empty (b ∷ s) h = let none : ⊥ = omega arith in absurd none

record Joins (w : ℕ) (s : List ℕ) : Type 0 where
  joins : AreBytes s → is_whole w s ≡ true → log_of w (records w s) ≡ s

joins-end : (w : ℕ) (s : List ℕ) → is_there w s ≡ false → is_whole w s ≡ true → log_of w (records w s) ≡ s
unfolding log_of
joins-end w s n k = rw (last w s n) (sym (empty s (sym (whole_length_lem w s k) ∙ length_last w s n)))

joins-more : (w : ℕ) (s : List ℕ) → is_there w s ≡ true → Joins w (drop (size w s) s) → AreBytes s → is_whole w s ≡ true → log_of w (records w s) ≡ s
unfolding log_of
joins-more w s y r b k =
    rw (more w s y, first w s y b, r.joins (bytes_drop (size w s) s b) (whole-more w s y k)) (take-append-drop (size w s) s)

pub joined : Joined
joined w s bytes h =
    (by_record w (Joins w) (λ s n. record { joins = λ b k. joins-end w s n k }) (λ s y r. record { joins = joins-more w s y r }) s).joins bytes h

-- ---- a log that is whole reads as its records

pub reads : (w : ℕ) (s : List ℕ) → is_whole w s ≡ true → read_log w s ≡ whole (records w s)
unfolding read_log
reads w s h = rw h

-- ---- the join of records reads as those records

-- two bytes behind a first part
at_join : (p : List ℕ) (a b : ℕ) (t : List ℕ) (w : ℕ) → length p ≡ w
    → (get_or (p ++ a ∷ b ∷ t) w 0 ≡ a) × (get_or (p ++ a ∷ b ∷ t) (w + 1) 0 ≡ b) × (drop (w + 2) (p ++ a ∷ b ∷ t) ≡ t)
at_join p a b t w e =
    (get_or_at p a (b ∷ t) 0 w e, rw (← e) (get_or-append-add p (a ∷ b ∷ t) 1 0), rw (← e) (drop-append-add p (a ∷ b ∷ t) 2))

-- the record in front of a join
module _ (w : ℕ) (r : Stored) (rest : List ℕ) (short : ShortBody w r) where
  abbrev log : List ℕ
  log = stored_bytes w r ++ rest

  front : claimed w log ≡ length r.body
  unfolding claimed stored_bytes
  front =
      let n : ℕ = length r.body in
      rw (append_assoc ((number w).put n) (r.low ∷ r.high ∷ r.body) rest) ((number_lawful w).back n _ short)

  all_there : is_there w log ≡ true
  unfolding is_there
  all_there = le-leb (size w log) (length log) (omega (arith, front, length-append (stored_bytes w r) rest, stored-length w r))

  behind : drop (size w log) log ≡ rest
  behind = drop_at (stored_bytes w r) rest (size w log) (stored-length w r ∙ rw front)

  this : first_of w log ≡ r
  unfolding first_of stored_bytes
  this =
      let n : ℕ = length r.body in
      let a = at_join ((number w).put n) r.low r.high (r.body ++ rest) w (number_size w n) in
      rw (front, append_assoc ((number w).put n) (r.low ∷ r.high ∷ r.body) rest, a.0, a.1, a.2, take_at r.body rest n refl)

  pub records-join : records w log ≡ r ∷ records w rest
  records-join = more w log all_there ∙ rw (this, behind)

read-records : (w : ℕ) (rs : List Stored) → AllFit (ShortBody w) rs → records w (log_of w rs) ≡ rs
unfolding log_of records_from
read-records w [] h = refl
read-records w (r ∷ rs) h = records-join w r (log_of w rs) h.0 ∙ rw (read-records w rs h.1)

pub read_back : ReadBack
unfolding whole_length
read_back w rs h =
    let e = read-records w rs h in
    reads w (log_of w rs) (length_whole w (log_of w rs) (rw e)) ∙ ap whole e

-- ---- bodies that are read are as short as the length field says

record AreShort (w : ℕ) (s : List ℕ) : Type 0 where
  are : AreBytes s → AllFit (ShortBody w) (records w s)

pub claim_small : (w : ℕ) (s : List ℕ) → AreBytes s → claimed w s < 256 ^ w
unfolding claimed
claim_small w s b = number_small w 0 s b

short-more : (w : ℕ) (s : List ℕ) → is_there w s ≡ true → AreShort w (drop (size w s) s) → AreBytes s → AllFit (ShortBody w) (records w s)
short-more w s y r b = rw (more w s y) (rw (body-length w s y) (claim_small w s b), r.are (bytes_drop (size w s) s b))

pub short_bodies : (w : ℕ) (s : List ℕ) → AreBytes s → AllFit (ShortBody w) (records w s)
short_bodies w s bytes =
    (by_record w (AreShort w) (λ s n. record { are = λ b. rw (last w s n) tt }) (λ s y r. record { are = short-more w s y r }) s).are bytes

-- ---- what feed writes

sixteen : (n : ℕ) → n / 256 / 256 ≡ n / 65536
sixteen n = omega arith

higher : (n : ℕ) → n / 65536 / 256 ≡ n / 16777216
higher n = omega arith

pub feed_writes : FeedWrites
unfolding record_of stored_bytes
feed_writes kind body = rw (sixteen (length body), higher (length body))
