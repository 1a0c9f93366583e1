-- A row of places with one more key, and what `keep` leaves.
-- Assumes nothing.
use Rattle.std.specs.Prelude.{Option, None, Some}
use mathlib.Core.Path.{◌≡◌, refl, sym, ap, ◌∙◌}
use mathlib.Core.Bool.{Bool, true, false, cond, ◌&&◌}
use mathlib.Core.List.{List, [], ◌∷◌, ◌++◌, append-nil, append_assoc}
use Prim.Native.Nat.{ℕ, zero, suc, ◌+◌, ◌-◌, ◌≤◌, ◌<◌}
use native.Mathlib.Nat.{le_of_lt}
use native.Mathlib.Numerals.{add-one}
use native.Mathlib.Omega.{arith}
use lib.ListN.{length, take, set, get_or, length-set}
use lib.Dec.{ltb, leb}
use lib.Seq.{take-suc-set, length-take-le}
use borrow.Author.Tests.{leb-true, ltb-true, ltb-false}
use Rattle.cbor.specs.Cbor.{repeat, pair, value}
use Rattle.cbor.proofs.Turns.{Left}
use Rattle.cbor.proofs.Turns as repeats
use Rattle.keys.specs.Keys.{part, keys_at, twice}
use Rattle.entries.specs.declared.Entry.{Entry}
use Rattle.entries.specs.declared.Entry.TheVariants.{Keyed, Other}
use Rattle.entries.specs.Entries.{next_of, entry_at, entries, contents}
use Rattle.double_keys.specs.Row.{kept, within, sound, row_double, room_for, kept_count, kept_starts, kept_stops, Keeps, RowAnswers}
use Rattle.double_keys.specs.declared.rows.Row.{Row}
use Rattle.double_keys.specs.Rows.{keys_in, IsRow}
use Rattle.double_keys.specs.Search.{Places}
use Rattle.entries.proofs.Folds.{not-read}
use Rattle.entries.proofs.Bools.{and_left, and_right}
use Rattle.entries.proofs.Walk.{entry-pair, ends, breaks, goes, contents-more}

suc-same : {m n : ℕ} → suc m ≡ suc n → m ≡ n
suc-same e = omega arith

module _ (s : List ℕ) where
  snoc : (xs ys : List ℕ) (a b : ℕ) → length xs ≡ length ys → keys_at s (xs ++ (a ∷ [])) (ys ++ (b ∷ [])) ≡ keys_at s xs ys ++ (part s a b ∷ [])
  unfolding keys_at
  snoc [] [] a b h = refl
  snoc [] (y ∷ ys) a b h = absurd (omega arith)
  snoc (x ∷ xs) [] a b h = absurd (omega arith)
  snoc (x ∷ xs) (y ∷ ys) a b h = ap (λ (l : List (List ℕ)). part s x y ∷ l) (snoc xs ys a b (suc-same h))

  kept_more : (starts stops : List ℕ) (k a b : ℕ) → k < length starts → k < length stops → kept s (set starts k a) (set stops k b) (k + 1) ≡ kept s starts stops k ++ (part s a b ∷ [])
  unfolding kept
  kept_more starts stops k a b h j =
      rw (add-one, take-suc-set starts k a h, take-suc-set stops k b j)
      (snoc (take k starts) (take k stops) a b (rw (length-take-le k starts (le_of_lt h), length-take-le k stops (le_of_lt j))))

-- What `keep` answers and leaves, in each of its cases: no room, room, and no key that is a byte string.
module _ (starts stops : List ℕ) (k : ℕ) (e : Option Entry) where
  module _ (a b q : ℕ) (i : e ≡ Some (Keyed a b q)) where
    pub no_room : room_for starts stops k a b ≡ false → Keeps starts stops starts stops k e (length starts + 1)
    unfolding kept_count kept_starts kept_stops
    no_room h = record { count = rw (i, h); starts_after = rw (i, h); stops_after = rw (i, h) }

    pub room : room_for starts stops k a b ≡ true → Keeps starts stops (set starts k a) (set stops k b) k e (k + 1)
    unfolding kept_count kept_starts kept_stops
    room h = record { count = rw (i, h); starts_after = rw (i, h); stops_after = rw (i, h) }

  pub no_key : ((start stop next : ℕ) → e ≡ Some (Keyed start stop next) → ⊥) → Keeps starts stops starts stops k e k
  unfolding kept_count kept_starts kept_stops
  no_key h = record { count = rw (not-read e h); starts_after = rw (not-read e h); stops_after = rw (not-read e h) }

-- What a walk needs of it: rows as long as before and, if r is not past their end, the k keys of before and then the entry's.
record More (starts stops starts' stops' : List ℕ) (k : ℕ) (e : Entry) (r : ℕ) : Type 0 where
  long : length starts' ≡ length starts
  long' : length stops' ≡ length stops
  before : r ≤ length starts → k ≤ length starts
  within : r ≤ length starts → k ≤ length stops → r ≤ length stops
  more : r ≤ length starts → (s : List ℕ) → kept s starts' stops' r ≡ kept s starts stops k ++ contents s (e ∷ [])

module _ (starts stops : List ℕ) (k : ℕ) where
  past : (n : ℕ) → n + 1 ≤ n → ⊥
  past n h = omega arith

  more-full : (e : Entry) → More starts stops starts stops k e (length starts + 1)
  more-full e = record {
    long = refl;
    long' = refl;
    before = λ h. absurd (past (length starts) h);
    within = λ h. absurd (past (length starts) h);
    more = λ h. absurd (past (length starts) h);
  }

  more-none : (e : Entry) → ((s : List ℕ) → contents s (e ∷ []) ≡ []) → More starts stops starts stops k e k
  more-none e f = record { long = refl; long' = refl; before = λ h. h; within = λ h j. j; more = λ h s. rw (f s, append-nil) }

  more-one : (a b q : ℕ) → k < length starts → k < length stops → More starts stops (set starts k a) (set stops k b) k (Keyed a b q) (k + 1)
  unfolding contents
  more-one a b q h j = record {
    long = simp length-set;
    long' = simp length-set;
    before = λ l. omega arith;
    within = λ l m. omega arith;
    more = λ l s. kept_more s starts stops k a b h j;
  }

  by-room : (a b q : ℕ) (t : Bool) → room_for starts stops k a b ≡ t → More starts stops (cond t (set starts k a) starts) (cond t (set stops k b) stops) k (Keyed a b q) (cond t (k + 1) (length starts + 1))
  by-room a b q true h =
      let two = and_left _ (leb a 65535) (and_left _ (leb b 65535) h) in
      more-one a b q (ltb-true k (length starts) (and_left _ (ltb k (length stops)) two)) (ltb-true k (length stops) (and_right (ltb k (length starts)) _ two))
  by-room a b q false h = more-full (Keyed a b q)

  more_of : (e : Entry) → More starts stops (kept_starts starts stops k (Some e)) (kept_stops starts stops k (Some e)) k e (kept_count starts stops k (Some e))
  unfolding kept_count kept_starts kept_stops contents
  more_of (Keyed a b q) = by-room a b q (room_for starts stops k a b) refl
  more_of (Other q) = more-none (Other q) (λ s. refl)

  keeps-more : (starts' stops' : List ℕ) (e : Entry) (r : ℕ) → Keeps starts stops starts' stops' k (Some e) r → More starts stops starts' stops' k e r
  keeps-more starts' stops' e r h = rw (h.count, h.starts_after, h.stops_after) (more_of e)

-- A walk over the n entries from `at` on with a row: `left` of them are to come, from p on, and if k is not past the row's end, the keys
-- are the k kept and then those to come.
module _ (s : List ℕ) (levels n at : ℕ) where
  pub record Walking (starts₀ stops₀ starts stops : List ℕ) (p left k : ℕ) : Type 0 where
    pub to_come : Left (pair s (value s levels)) n at left p
    pub within : k ≤ length starts → k ≤ length stops
    pub same : k ≤ length starts → contents s (entries s levels n at) ≡ kept s starts stops k ++ contents s (entries s levels left p)
    pub long : length starts ≡ length starts₀
    pub long' : length stops ≡ length stops₀

  -- one turn: e is the first to come, and the walk goes on behind it
  pub record Turn (starts₀ stops₀ starts stops : List ℕ) (p left : ℕ) (e : Entry) (q r : ℕ) : Type 0 where
    pub first : entries s levels left p ≡ e ∷ entries s levels (left - 1) q
    pub on : Walking starts₀ stops₀ starts stops q (left - 1) r

  -- the end: no entry is to come, and the keys are those kept
  pub record Over (starts stops : List ℕ) (p left k : ℕ) (end : Option ℕ) : Type 0 where
    pub none : entries s levels left p ≡ []
    pub place : end ≡ repeat n (pair s (value s levels)) at
    pub within : k ≤ length starts → k ≤ length stops
    pub same : k ≤ length starts → contents s (entries s levels n at) ≡ kept s starts stops k

  pub begun : (starts stops : List ℕ) → Walking starts stops starts stops at n 0
  unfolding kept keys_at
  begun starts stops = record { to_come = refl; within = λ h. omega arith; same = λ h. refl; long = refl; long' = refl }

module _ {s : List ℕ} {levels n at : ℕ} {starts₀ stops₀ starts stops : List ℕ} {p left k : ℕ} (w : Walking s levels n at starts₀ stops₀ starts stops p left k) where
  over : (end : Option ℕ) → entries s levels left p ≡ [] → end ≡ repeat n (pair s (value s levels)) at → Over s levels n at starts stops p left k end
  unfolding contents
  over end e h = record { none = e; place = h; within = w.within; same = λ l. w.same l ∙ rw (e, append-nil) }

  pub finished : left ≡ 0 → Over s levels n at starts stops p left k (Some p)
  finished h = over (Some p) (ends s levels left p h) (repeats.ends _ n at left p w.to_come h)

  -- by what `read_entry` and `keep` answer
  pub broken : 0 < left → None ≡ entry_at s levels p → Over s levels n at starts stops p left k None
  broken some read = over None (breaks s levels left p some read) (repeats.stops _ n at left p w.to_come some (entry-pair s levels p ∙ rw (← read)))

  module _ {e : Entry} (some : 0 < left) (read : Some e ≡ entry_at s levels p) where
    pub turn : {r : ℕ} {starts' stops' : List ℕ} → Keeps starts stops starts' stops' k (Some e) r → Turn s levels n at starts₀ stops₀ starts' stops' p left e (next_of e) r
    turn {r} {starts'} {stops'} g =
        let f = goes s levels left p e some read in
        let m = keeps-more starts stops k starts' stops' e r g in
        let b : r ≤ length starts' → r ≤ length starts = λ l. omega (arith, m.long) in
        record {
          first = f;
          on = record {
            to_come = repeats.goes _ n at left p w.to_come (next_of e) some (entry-pair s levels p ∙ rw (← read));
            within = λ l. omega (arith, m.within (b l) (w.within (m.before (b l))), m.long');
            same = λ l.
                w.same (m.before (b l)) ∙ rw (f, contents-more s e _, ← append_assoc (kept s starts stops k) (contents s (e ∷ [])) (contents s _), ← m.more (b l) s);
            long = m.long ∙ w.long;
            long' = m.long' ∙ w.long';
          };
        }

-- places that are within so many bytes, one by one
within-each : (starts stops : List ℕ) (n size : ℕ) → within starts stops n size ≡ true → (t : ℕ) → t < n → (get_or starts t 0 ≤ get_or stops t 0) × (get_or stops t 0 ≤ size)
unfolding within
within-each starts stops zero size w t h = absurd (omega arith)
within-each starts stops (suc n) size w t h = by (ltb t n) refl (within-each starts stops n size (and_left _ (leb (get_or starts n 0) (get_or stops n 0)) (and_left _ (leb (get_or stops n 0) size) w)) t)
  where
    by : (a : Bool) → ltb t n ≡ a → (t < n → (get_or starts t 0 ≤ get_or stops t 0) × (get_or stops t 0 ≤ size)) → (get_or starts t 0 ≤ get_or stops t 0) × (get_or stops t 0 ≤ size)
    by true e before = before (ltb-true t n e)
    by false e before =
        let l = ltb-false t n e in
        let q : t ≡ n = omega arith in
        let last : (get_or starts n 0 ≤ get_or stops n 0) × (get_or stops n 0 ≤ size) = (leb-true _ _ (and_right (within starts stops n size) _ (and_left _ (leb (get_or stops n 0) size) w)), leb-true _ _ (and_right (within starts stops n size && leb (get_or starts n 0) (get_or stops n 0)) _ w)) in
        rw q last

-- what a sound row is
module _ (s starts stops : List ℕ) (k : ℕ) (h : sound s starts stops k ≡ true) where
  three : (leb k (length starts) && leb k (length stops) && leb k 1024) ≡ true
  unfolding sound
  three = and_left _ (within starts stops k (length s)) h

  two : (leb k (length starts) && leb k (length stops)) ≡ true
  two = and_left _ (leb k 1024) three

  pub sound_starts : k ≤ length starts
  sound_starts = leb-true k (length starts) (and_left _ (leb k (length stops)) two)

  pub sound-few : k ≤ 1024
  sound-few = leb-true k 1024 (and_right (leb k (length starts) && leb k (length stops)) _ three)

  pub sound-places : Places s starts stops k
  unfolding sound
  sound-places = (sound_starts, leb-true k (length stops) (and_right (leb k (length starts)) _ two), within-each starts stops k (length s) (and_right (leb k (length starts) && leb k (length stops) && leb k 1024) _ h))

pub row-keys : {s starts stops : List ℕ} {k : ℕ} (r : Row) → IsRow s starts stops k (Some r) → keys_in r ≡ kept s starts stops k
row-keys r h = rw (h.1, h.2, h.3, h.4)

-- a row that has the keys of the entries answers for them
by-sound : (t : Bool) {a b : Bool} → (t ≡ true → a ≡ b) → cond t a b ≡ b
by-sound true h = h refl
by-sound false h = refl

pub row-answers : RowAnswers
unfolding row_double
row-answers s es starts stops k h = by-sound (sound s starts stops k) (λ e. ap twice (sym (h (sound_starts s starts stops k e))))
