-- What is proved of comparisons beside the contracts, each claim under its name: of the list in proofs/Differing.antt, of the reading for
-- breaks in proofs/Scans.antt, of lent logs in proofs/Lists.antt, of logs in pieces in proofs/Comparison.antt, proofs/Progress.antt
-- and proofs/Loop.antt.
-- These are definitions: they assume nothing.
use Rattle.std.specs.Prelude.{◌≡◌, ℕ, zero, suc, ◌+◌, ◌-◌, ◌^◌, ◌<◌, ◌≤◌, Bool, true, cond, ◌&&◌, ◌⊎◌, ◌↔◌, List, [], ◌∷◌, ◌++◌, length, take, drop, ◌==◌, nat_le}
use Rattle.fields.specs.Laws.{AreBytes}
use Rattle.logs.specs.Logs.{records, is_whole, whole, broken, read_log}
use Rattle.log_compare.specs.Entries.{entries_of}
use Rattle.log_compare.specs.Partial.{UnderWay}
use Rattle.log_compare.specs.Scan.{Scanned, unread, scan_of, scan_view}
use Rattle.log_compare.specs.Steps.{Standing, Stepped, fresh, standing, is_end, step_of}
use Rattle.log_compare.specs.Places.{first_place, next_of}
use Rattle.log_compare.specs.declared.Entry.{Entry}
use Rattle.std.specs.Prelude.{Option, None, Some}
use Rattle.log_compare.specs.declared.Place.{Place}

-- ---- the list is empty exactly for equal logs

abbrev pub NoneIfEqual : Type 0
NoneIfEqual = (a b : List ℕ) → AreBytes a → AreBytes b → is_whole 4 a ≡ true → is_whole 4 b ≡ true → (entries_of a b ≡ []) ↔ (a ≡ b)

-- ---- a log read through for a break: however it is cut, it comes to the same, and that is how the log reads

abbrev pub AnyCut : Type 0
AnyCut = (s : Scanned) (p q : List ℕ) → scan_of s (p ++ q) ≡ scan_of (scan_of s p) q

abbrev pub read : Scanned → List ℕ → Type 0
read s log = read_log 4 log ≡ cond (s.start == s.place) (whole (records 4 log)) (broken s.start)

abbrev pub Finds : Type 0
Finds = (log : List ℕ) → length log < 2 ^ 64 → read (scan_of (scan_view unread) log) log

-- ---- lent logs: the calls one after another, from a place until nothing is said, with the entries that they say

pub data Lists (a b : List ℕ) : Place → List Entry → Type 0 where
  none : (p : Place) → (next_of p a b).said ≡ None → Lists a b p []
  more : (p : Place) (e : Entry) {es : List Entry} → (next_of p a b).said ≡ Some e → Lists a b (next_of p a b).next es → Lists a b p (e ∷ es)

abbrev pub ListsAll : Type 0
ListsAll = (a b : List ℕ) (es : List Entry) → length a + length b < 2 ^ 64 → Lists a b first_place es → es ≡ entries_of a b

-- they end: what is left of the logs behind an entry is less
abbrev pub bytes_left : Place → List ℕ → List ℕ → ℕ
bytes_left p a b = (length a - p.first) + (length b - p.second)

abbrev pub Ends : Type 0
Ends = (p : Place) (a b : List ℕ) (e : Entry) → (next_of p a b).said ≡ Some e → bytes_left (next_of p a b).next a b < bytes_left p a b

-- ---- logs in pieces: steps one after another, whatever pieces are at hand in each, from a state and the bytes then left of both logs to their
-- ends, with the entries that the steps say and the state at the end

unfoldable pub said_of : Option Entry → List Entry
said_of None = []
said_of (Some e) = e ∷ []

pub data Steps : Standing → List ℕ → List ℕ → List Entry → Standing → Type 0 where
  done : (c : Standing) → Steps c [] [] [] c
  step : (c : Standing) (a a' : List ℕ) (aLast : Bool) (b b' : List ℕ) (bLast : Bool) {es : List Entry} {d : Standing}
      → (aLast ≡ true → a' ≡ []) → (bLast ≡ true → b' ≡ [])
      → Steps (step_of c a aLast b bLast).state (drop (step_of c a aLast b bLast).first a ++ a') (drop (step_of c a aLast b bLast).second b ++ b') es d
      → Steps c (a ++ a') (b ++ b') (said_of (step_of c a aLast b bLast).said ++ es) d

-- where no record is under way at the end, both logs were whole, and what was said is what differs, however they were cut
pub record Compared (a b : List ℕ) (es : List Entry) : Type 0 where
  pub first : is_whole 4 a ≡ true
  pub second : is_whole 4 b ≡ true
  pub said : es ≡ entries_of a b

abbrev pub SaysAll : Type 0
SaysAll =
    (a b : List ℕ) (es : List Entry) (d : Standing) → length a + length b < 2 ^ 64 → Steps (standing fresh) a b es d → is_end d ≡ true → Compared a b es

-- what is left of a log, s, is the rest of the body under way and then, behind a head's bytes held, whole records
unfoldable pub is_rest : UnderWay → List ℕ → Bool
is_rest u s = nat_le u.left (length s) && is_whole 4 (u.head ++ drop u.left s)

-- something is at hand of a log, or it is at its end: s is at hand of the bytes s ++ s' that are left
pub record AtHand (u : UnderWay) (s s' : List ℕ) (is_last : Bool) : Type 0 where
  pub short : length u.head < 6
  pub rest : is_rest u (s ++ s') ≡ true
  pub last : is_last ≡ true → s' ≡ []
  pub some : (is_last ≡ true) ⊎ (0 < length s)

-- then a step takes a byte, so that the steps end, and what is left of each log stays such a rest
pub record Moved (a a' b b' : List ℕ) (r : Stepped) : Type 0 where
  pub takes : 0 < r.first + r.second
  pub first : is_rest r.state.first (drop r.first a ++ a') ≡ true
  pub second : is_rest r.state.second (drop r.second b ++ b') ≡ true
  pub first_short : length r.state.first.head < 6
  pub second_short : length r.state.second.head < 6

abbrev pub Moves : Type 0
Moves =
    (c : Standing) (a a' : List ℕ) (aLast : Bool) (b b' : List ℕ) (bLast : Bool)
    → AtHand c.first a a' aLast → AtHand c.second b b' bLast → 0 < length a + length b → Moved a a' b b' (step_of c a aLast b bLast)

-- whole logs come to their ends: a state with nothing left of them has no record under way
abbrev pub EndsWhole : Type 0
EndsWhole = (a b : List ℕ) (es : List Entry) (d : Standing) → is_whole 4 a ≡ true → is_whole 4 b ≡ true → Steps (standing fresh) a b es d → is_end d ≡ true

-- ---- the whole loop: in each turn a step with a piece of each log of any size, but for one of no bytes, as far as the log goes

pub record Looped : Type 0 where
  pub state : Standing
  pub first : List ℕ
  pub second : List ℕ
  pub said : List Entry

-- n turns, with pieces of f k + 1 and g k + 1 bytes where k turns follow
unfoldable pub turns : ℕ → (ℕ → ℕ) → (ℕ → ℕ) → Standing → List ℕ → List ℕ → Looped
turns zero f g c a b = record { state = c; first = a; second = b; said = [] }
turns (suc k) f g c a b =
    let r = step_of c (take (suc (f k)) a) (nat_le (length a) (suc (f k))) (take (suc (g k)) b) (nat_le (length b) (suc (g k))) in
    let t = turns k f g r.state (drop r.first a) (drop r.second b) in
    record { state = t.state; first = t.first; second = t.second; said = said_of r.said ++ t.said }

-- it ends: after as many turns as whole logs have bytes both are at their ends, and what was said is what differs
pub record Done (a b : List ℕ) (t : Looped) : Type 0 where
  pub first : t.first ≡ []
  pub second : t.second ≡ []
  pub end : is_end t.state ≡ true
  pub said : t.said ≡ entries_of a b

abbrev pub LoopEnds : Type 0
LoopEnds =
    (a b : List ℕ) (n : ℕ) (f g : ℕ → ℕ) → is_whole 4 a ≡ true → is_whole 4 b ≡ true → length a + length b < 2 ^ 64 → length a + length b ≤ n
    → Done a b (turns n f g (standing fresh) a b)
