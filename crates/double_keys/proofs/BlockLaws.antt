-- The laws of the search in blocks: what taking a block leaves, when a key stands twice in two lists of keys together, what the search in
-- one block shows, and that the entries behind a prefix have the keys of those in the rest.
-- Assumes nothing.
use Rattle.std.specs.Prelude.{Option, None, Some}
use mathlib.Core.Path.{◌≡◌, refl, sym, ap, ◌∙◌}
use mathlib.Core.Logic.{⊎_elim}
use mathlib.Core.Bool.{Bool, true, false, cond, ◌||◌, or_assoc}
use mathlib.Core.List.{List, [], ◌∷◌, ◌++◌}
use Prim.Native.Nat.{ℕ, ◌+◌, ◌-◌, ◌≤◌, ◌<◌}
use native.Mathlib.Nat.{eq-or-lt_of_le}
use native.Mathlib.Omega.{arith}
use lib.ListN.{length, take, drop, set, get_or, length-set, length-drop, take-append-drop}
use lib.Dec.{ltb, leb}
use lib.Seq.{take_all, length-take-le, get_or-set_same, get_or-set_other}
use borrow.Author.Tests.{ltb-true}
use Rattle.cbor.specs.declared.Item.{Item}
use Rattle.cbor.specs.declared.Item.TheVariants.{Unsigned, Negative, Bytes, Simple, Array, Map, Set}
use Rattle.cbor.specs.Cbor.{Reader, item_at}
use Rattle.cbor.proofs.Ahead.{Item-ahead, Ahead, Moves, item-ahead, value-moves}
use Rattle.keys.specs.Keys.{part, equal, among, twice}
use Rattle.keys.proofs.Equal.{equal-sym}
use Rattle.entries.specs.declared.Entry.{Entry}
use Rattle.entries.specs.declared.Entry.TheVariants.{Keyed, Other}
use Rattle.entries.specs.Entries.{next_of, again, keyed, other, entry_of, entry_at, entries, contents}
use Rattle.entries.proofs.Bools.{and_left, and_right}
use Rattle.entries.proofs.Walk.{ends, goes, twice-more}
use Rattle.entries.proofs.Shift.{entries_shift, contents_shift}
use Rattle.double_keys.specs.declared.walk.Entries.{Entries}
use Rattle.double_keys.specs.declared.blocks.Block.{Block}
use Rattle.double_keys.specs.Entries.{to_come, keys_to_come, FromHere}
use Rattle.double_keys.specs.Walk.{Gives}
use Rattle.double_keys.specs.Row.{kept, room_for, kept_count, kept_starts, kept_stops, Keeps}
use Rattle.double_keys.specs.Search.{Places}
use Rattle.double_keys.specs.Blocks.{entry_among, meet, block_double, Blocked}
use Rattle.double_keys.proofs.RowLaws.{Walking, begun, turn}

-- An entry that was read lies in s: its key starts before it stops, and neither that nor the position after the entry is past the end.
module _ (s : List ℕ) where
  abbrev Lies : Entry → Type 0
  Lies (Keyed start stop next) = (start ≤ stop) × (stop ≤ length s) × (next ≤ length s)
  Lies (Other next) = next ≤ length s

  abbrev Each-lies : Option Entry → Type 0
  Each-lies None = Unit {0}
  Each-lies (Some e) = Lies e

  keyed_lies : (start stop : ℕ) (x : Option ℕ) → start ≤ stop → stop ≤ length s → Ahead s stop x → Each-lies (keyed start stop x)
  keyed_lies start stop (Some q) h k a = (h, k, a.1)
  keyed_lies start stop None h k a = tt

  other_lies : (p : ℕ) (x : Option ℕ) → Ahead s p x → Each-lies (other x)
  other_lies p (Some q) a = a.1
  other_lies p None a = tt

  entry_of_lies : {r : Reader} → Moves s r → (p : ℕ) (x : Option Item) → Item-ahead s p x → Each-lies (entry_of r x)
  entry_of_lies {r} m p (Some (Unsigned n q)) a = other_lies q (r q) (m.ahead q)
  entry_of_lies {r} m p (Some (Negative n q)) a = other_lies q (r q) (m.ahead q)
  entry_of_lies {r} m p (Some (Bytes start q)) a = keyed_lies start q (r q) a.2 a.1 (m.ahead q)
  entry_of_lies {r} m p (Some (Simple q)) a = other_lies q (r q) (m.ahead q)
  entry_of_lies m p (Some (Array n q)) a = tt
  entry_of_lies m p (Some (Map n q)) a = tt
  entry_of_lies m p (Some (Set n q)) a = tt
  entry_of_lies m p None a = tt

  entry_lies : (levels p : ℕ) → Each-lies (entry_at s levels p)
  unfolding entry_at
  entry_lies levels p = entry_of_lies (value-moves s levels) p (item_at s p) (item-ahead s p)

  -- by what `read_entry` answers
  read_lies : (levels p : ℕ) (e : Entry) → Some e ≡ entry_at s levels p → Lies e
  read_lies levels p e h = rw (← h) at (entry_lies levels p)

  next_lies : (e : Entry) → Lies e → next_of e ≤ length s
  next_lies (Keyed start stop next) h = h.2
  next_lies (Other next) h = h

  next-within : (levels p : ℕ) (e : Entry) → Some e ≡ entry_at s levels p → next_of e ≤ length s
  next-within levels p e h = next_lies e (read_lies levels p e h)

-- The law of blocks, for two lists of keys one behind the other.
or_four : (a b c d : Bool) → (a || b || (c || d)) ≡ (a || c || (b || d))
or_four true b c d = refl
or_four false true true d = refl
or_four false true false d = refl
or_four false false c d = refl

or_five : (a b c d e : Bool) → (a || b || (c || d || e)) ≡ (a || c || (b || d) || e)
or_five true b c d e = refl
or_five false true true d e = refl
or_five false true false d e = refl
or_five false false c d e = refl

among_append : (ks ls : List (List ℕ)) (x : List ℕ) → among (ks ++ ls) x ≡ (among ks x || among ls x)
unfolding among
among_append [] ls x = refl
among_append (k ∷ ks) ls x = rw (among_append ks ls x) (sym (or_assoc (equal x k) (among ks x) (among ls x)))

meet-none : (ls : List (List ℕ)) → meet [] ls ≡ false
unfolding meet among
meet-none [] = refl
meet-none (l ∷ ls) = meet-none ls

meet-more : (k : List ℕ) (ks ls : List (List ℕ)) → meet (k ∷ ks) ls ≡ (among ls k || meet ks ls)
unfolding meet among
meet-more k ks [] = refl
meet-more k ks (l ∷ ls) = rw (meet-more k ks ls, equal-sym l k) (or_four (equal k l) (among ks l) (among ls k) (meet ks ls))

-- a key stands twice in both together if it does so in the first, or stands in the first and in the second, or twice in the second
twice_append : (ks ls : List (List ℕ)) → twice (ks ++ ls) ≡ (block_double ks ls || twice ls)
unfolding block_double twice
twice_append [] ls = rw (meet-none ls)
twice_append (k ∷ ks) ls =
    rw (among_append ks ls k, twice_append ks ls, meet-more k ks ls)
    (or_five (among ks k) (among ls k) (twice ks) (meet ks ls) (twice ls))

-- whether a key of a list of entries stands among others, by its first
pub meet-first : (s : List ℕ) (ks : List (List ℕ)) (e : Entry) (es : List Entry) → meet ks (contents s (e ∷ es)) ≡ (entry_among s ks e || meet ks (contents s es))
unfolding contents meet
meet-first s ks (Keyed start stop next) es = refl
meet-first s ks (Other next) es = refl

-- What `keep` leaves of a row of places in s, for an entry that lies in s: if it answers a number past the row's end, the row as it was; if
-- not, places in s.
record Leaving (s starts stops starts' stops' : List ℕ) (r : ℕ) : Type 0 where
  long : length starts' ≡ length starts
  full : length starts < r → (starts' ≡ starts) × (stops' ≡ stops)
  room : r ≤ length starts → Places s starts' stops' r

module _ (s starts stops : List ℕ) (k : ℕ) (h : Places s starts stops k) where
  leaving_full : Leaving s starts stops starts stops (length starts + 1)
  leaving_full = record { long = refl; full = λ l. (refl, refl); room = λ l. absurd (omega arith) }

  leaving_none : Leaving s starts stops starts stops k
  leaving_none = record { long = refl; full = λ l. (refl, refl); room = λ l. h }

  module _ (a b : ℕ) (l : k < length starts) (m : k < length stops) (below : a ≤ b) (within : b ≤ length s) where
    one_more : (t : ℕ) → t < k + 1 → (get_or (set starts k a) t 0 ≤ get_or (set stops k b) t 0) × (get_or (set stops k b) t 0 ≤ length s)
    one_more t j =
        ⊎_elim
        (λ (e : t ≡ k). rw (e, get_or-set_same starts k a 0 l, get_or-set_same stops k b 0 m) (below, within))
        (λ (i : t < k). let n : t ≡ k → ⊥ = λ e. omega arith in rw (get_or-set_other starts k t a 0 n, get_or-set_other stops k t b 0 n) (h.2 t i))
        (eq-or-lt_of_le (omega arith))

    leaving_one : Leaving s starts stops (set starts k a) (set stops k b) (k + 1)
    leaving_one = record {
      long = simp length-set;
      full = λ j. absurd (omega arith);
      room = λ j. (simp length-set (omega arith), simp length-set (omega arith), one_more);
    }

  by-room : (a b q : ℕ) → Lies s (Keyed a b q) → (t : Bool) → room_for starts stops k a b ≡ t
      → Leaving s starts stops (cond t (set starts k a) starts) (cond t (set stops k b) stops) (cond t (k + 1) (length starts + 1))
  by-room a b q i true e =
      let two = and_left _ (leb a 65535) (and_left _ (leb b 65535) e) in
      leaving_one a b (ltb-true k (length starts) (and_left _ (ltb k (length stops)) two)) (ltb-true k (length stops) (and_right (ltb k (length starts)) _ two)) i.0 i.1
  by-room a b q i false e = leaving_full

  leaving_of : (e : Entry) → Lies s e → Leaving s starts stops (kept_starts starts stops k (Some e)) (kept_stops starts stops k (Some e)) (kept_count starts stops k (Some e))
  unfolding kept_count kept_starts kept_stops
  leaving_of (Keyed a b q) i = by-room a b q i (room_for starts stops k a b) refl
  leaving_of (Other q) i = leaving_none

  keeps_leaving : {starts' stops' : List ℕ} {e : Entry} {r : ℕ} → Lies s e → Keeps starts stops starts' stops' k (Some e) r → Leaving s starts stops starts' stops' r
  keeps_leaving {e} i g = rw (g.count, g.starts_after, g.stops_after) (leaving_of e i)

-- what a call of the iterator answers and leaves
abbrev pub Given : Entries → Option Entry → Entries → Type 0
Given x e y = Gives x.s.now x.levels x.left x.at e y.left y.at × (y.s.now ≡ x.s.now) × (y.levels ≡ x.levels)

-- What the iterator gives: the first entry, if there is one, and then those that follow it.
module _ (x y : Entries) (e : Entry) (g : Given x (Some e) y) where
  pub first : to_come x ≡ e ∷ to_come y
  first = rw (g.1, g.2, g.0.2, g.0.3) (goes x.s.now x.levels x.left x.at e g.0.0 g.0.1)

  pub twice-first : twice (keys_to_come x) ≡ (again y.s.now e (to_come y) || twice (keys_to_come y))
  twice-first = rw (first, ← g.1) (twice-more y.s.now e (to_come y))

  pub meet-given : (ks : List (List ℕ)) → meet ks (keys_to_come x) ≡ (entry_among x.s.now ks e || meet ks (keys_to_come y))
  meet-given ks = rw (first, ← g.1) (meet-first y.s.now ks e (to_come y))

  -- it lies in s, and so do those that follow
  pub within : y.at ≤ length y.s.now
  within = rw (g.1, g.0.3) (next-within x.s.now x.levels x.at e g.0.1)

-- A block on the way: a walk over all of the entries with a row whose places lie in s.
pub record Taking (all : Entries) (starts₀ stops₀ starts stops : List ℕ) (b : Block) : Type 0 where
  pub walk : Walking all.s.now all.levels all.left all.at starts₀ stops₀ starts stops b.rest.at b.rest.left b.count
  pub in_s : Places all.s.now starts stops b.count
  pub fewer : b.rest.left ≤ all.left
  pub same_s : b.rest.s.now ≡ all.s.now
  pub same_levels : b.rest.levels ≡ all.levels

pub taking : (all : Entries) (starts stops : List ℕ) → Taking all starts stops starts stops (record { count = 0; rest = all })
taking all starts stops = record {
  walk = begun all.s.now all.levels all.left all.at starts stops;
  in_s = (omega arith, omega arith, λ t h. absurd (omega arith));
  fewer = omega arith;
  same_s = refl;
  same_levels = refl;
}

module _ {all : Entries} {starts₀ stops₀ starts stops : List ℕ} {b : Block} (w : Taking all starts₀ stops₀ starts stops b) where
  -- the block may end here
  pub taken : Blocked all starts₀ starts stops b
  taken = record {
    long = w.walk.long;
    in_s = w.in_s;
    same = rw (w.same_s, w.same_levels) (w.walk.same w.in_s.0);
    same_s = w.same_s;
    fewer = w.fewer;
  }

  -- or where no entry is to come: y is what the iterator then leaves
  pub taken-all : (y : Entries) → Given b.rest None y → Blocked all starts₀ starts stops (record { count = b.count; rest = y })
  unfolding contents
  taken-all y g = record {
    long = w.walk.long;
    in_s = w.in_s;
    same = taken.same ∙ rw (g.0.0, ends y.s.now y.levels y.left y.at g.0.1);
    same_s = g.1 ∙ w.same_s;
    fewer = omega (arith, g.0.1);
  }

  -- by what the iterator gives and `keep` answers
  module _ (e : Entry) (y : Entries) {r : ℕ} {starts' stops' : List ℕ} (g : Given b.rest (Some e) y) (keeps : Keeps starts stops starts' stops' b.count (Some e) r) where
    read : Some e ≡ entry_at all.s.now all.levels b.rest.at
    read = rw (w.same_s, w.same_levels) at g.0.1

    leaves : Leaving all.s.now starts stops starts' stops' r
    leaves = keeps_leaving all.s.now starts stops b.count w.in_s (read_lies all.s.now all.levels b.rest.at e read) keeps

    -- the row is full
    pub taken-full : length starts' < r → Blocked all starts₀ starts' stops' b
    taken-full h = let f = leaves.full (omega (arith, leaves.long)) in rw (f.0, f.1) taken

    -- the row has room
    pub taken-one : r ≤ length starts' → Taking all starts₀ stops₀ starts' stops' (record { count = r; rest = y })
    taken-one h = record {
      walk = rw (g.0.2, g.0.3) (turn w.walk g.0.0 read keeps).on;
      in_s = leaves.room (omega (arith, leaves.long));
      fewer = omega (arith, w.fewer, g.0.2);
      same_s = g.1 ∙ w.same_s;
      same_levels = g.2 ∙ w.same_levels;
    }

-- What stands behind a prefix: the entries of p ++ t from m + q on, where p has m bytes, have the keys of those of t from q on.
behind : (p t : List ℕ) {s : List ℕ} {m : ℕ} → p ++ t ≡ s → length p ≡ m → (levels n q : ℕ) → contents s (entries s levels n (m + q)) ≡ contents t (entries t levels n q)
behind p t e l levels n q = rw (← e, ← l, entries_shift p t levels n q) (contents_shift p t (entries t levels n q))

-- t is what s has from m on, which lies in s
module _ (s : List ℕ) (m : ℕ) {t : List ℕ} (h : m ≤ length s) (rest : t ≡ part s m (length s)) where
  rest-drop : t ≡ drop m s
  unfolding part
  rest-drop = rest ∙ take_all (length s - m) (drop m s) (simp length-drop (omega arith))

  in_rest : (levels n : ℕ) → contents s (entries s levels n m) ≡ contents t (entries t levels n 0)
  in_rest levels n =
      let z : m + 0 ≡ m = omega arith in
      ap (λ (q : ℕ). contents s (entries s levels n q)) (sym z) ∙ rw rest-drop (behind (take m s) (drop m s) (take-append-drop m s) (length-take-le m s h) levels n 0)

pub from-here : (x y : Entries) → x.at ≤ length x.s.now → FromHere x y → keys_to_come x ≡ keys_to_come y
from-here x y h f = rw (f.1, f.2, f.3) (in_rest x.s.now x.at h f.0 x.levels x.left)

-- A turn of the search in blocks, by what the iterator gives, `from_here`, `take_block`, `stands_again` and `block_double` answer.
pub block_turn : (x y z : Entries) (e : Entry) (starts starts' stops' : List ℕ) (b : Block) → Given x (Some e) y → FromHere y z → Blocked z starts starts' stops' b
    → (again? double : Bool) → again? ≡ again y.s.now e (to_come y) → again? ≡ false
    → double ≡ block_double (kept b.rest.s.now starts' stops' b.count) (keys_to_come b.rest)
    → twice (keys_to_come x) ≡ (double || twice (keys_to_come b.rest))
block_turn x y z e starts starts' stops' b g f taken again? double h k d =
    twice-first x y e g ∙ rw (← h, k, from-here y z (within x y e g) f, taken.same, ← taken.same_s, twice_append (kept b.rest.s.now starts' stops' b.count) (keys_to_come b.rest), ← d)
