-- The calls on lent logs, one after another until nothing is said: they say what differs, and they end. Assumes nothing.
use Rattle.std.proofs.Common.{◌≡◌, ℕ, suc, ◌+◌, ◌-◌, ◌*◌, ◌%◌, ◌^◌, ◌<◌, ◌≤◌, Bool, true, false, List, [], ◌∷◌, ◌++◌, length, drop, sym, refl, ap, ◌∙◌, add-zero, arith, length-drop, drop-drop}
use Rattle.logs.specs.Logs.{Stored, size, is_there, first_of, records}
use Rattle.logs.proofs.Walk.{there, more, last, body-length, by_record}
use Rattle.log_compare.specs.Entries.{same, entries_from, entries_of}
use Rattle.log_compare.specs.Places.{moved_to, bytes_in, find_from, next_of}
use Rattle.log_compare.specs.Laws.{Lists, none, more as again, said_of, ListsAll, Ends, bytes_left}
use Rattle.log_compare.specs.declared.Entry.{Entry}
use Rattle.std.specs.Prelude.{None, Some}
use Rattle.log_compare.specs.declared.Place.{Place}
use Rattle.log_compare.specs.declared.Found.{Found}

-- ---- the records of a log: the first, and those behind it

record Behind (s : List ℕ) (r : Stored) (rs : List Stored) : Type 0 where
  rest : rs ≡ records 4 (drop (bytes_in r) s)
  within : bytes_in r ≤ length s

behind : (s : List ℕ) {r : Stored} {rs : List Stored} → records 4 s ≡ r ∷ rs → Behind s r rs
unfolding bytes_in
behind s {r} {rs} h = go (is_there 4 s) refl
  where
    go : (t : Bool) → is_there 4 s ≡ t → Behind s r rs
    go true e =
        let k = sym h ∙ more 4 s e in
        let f : r ≡ first_of 4 s = cc in
        let b : length r.body ≡ size 4 s - 6 = rw f (body-length 4 s e ∙ omega arith) in
        let g : rs ≡ records 4 (drop (size 4 s) s) = cc in
        let n : 6 + length r.body ≡ size 4 s = omega arith in
        record { rest = rw n g; within = rw n (there 4 s e) }
    go false e =
        let k = sym h ∙ last 4 s e in
        let none : ◌≡◌ {A = ℕ} 0 1 = cc in
        let no : ⊥ = omega arith in
        absurd no

-- each has six bytes at least
record Few (s : List ℕ) : Type 0 where
  few : 6 * length (records 4 s) ≤ length s

few : (s : List ℕ) → 6 * length (records 4 s) ≤ length s
few s =
    (by_record 4 Few (λ s e. record { few = rw (last 4 s e) (omega arith) })
    (λ s e r. record { few = rw (more 4 s e) (omega (arith, r.few, there 4 s e, length-drop (size 4 s) s)) }) s).few

-- ---- one call

module _ (a b : List ℕ) where
  -- the records from a place on
  record At (p : Place) (rs qs : List Stored) : Type 0 where
    first : rs ≡ records 4 (drop p.first a)
    second : qs ≡ records 4 (drop p.second b)

  -- numbers that do not wrap
  abbrev Bound : ℕ → List Stored → List Stored → Type 0
  Bound n rs qs = n + (length rs + length qs) < 2 ^ 64

  -- what is said of these records, and what is then to be said of others
  record Said (p : Place) (rs qs : List Stored) (f : Found) : Type 0 where
    first : List Stored
    second : List Stored
    there : At f.next first second
    entries : Bound p.number rs qs → entries_from p.number rs qs ≡ said_of f.said ++ entries_from f.next.number first second
    bound : Bound p.number rs qs → Bound f.next.number first second
    end : f.said ≡ None → entries_from f.next.number first second ≡ []
    less : (e : Entry) → f.said ≡ Some e → bytes_left f.next a b < bytes_left p a b

  -- the place behind a record of the first log, of the second
  module _ (p : Place) where
    next-first : {r : Stored} {rs : List Stored} → r ∷ rs ≡ records 4 (drop p.first a) → rs ≡ records 4 (drop (p.first + bytes_in r) a)
    next-first {r} h = (behind (drop p.first a) (sym h)).rest ∙ ap (records 4) (drop-drop (bytes_in r) p.first a)

    next-second : {q : Stored} {qs : List Stored} → q ∷ qs ≡ records 4 (drop p.second b) → qs ≡ records 4 (drop (p.second + bytes_in q) b)
    next-second {q} h = (behind (drop p.second b) (sym h)).rest ∙ ap (records 4) (drop-drop (bytes_in q) p.second b)

    within_first : {r : Stored} {rs : List Stored} → r ∷ rs ≡ records 4 (drop p.first a) → (6 ≤ bytes_in r) × (bytes_in r ≤ length a - p.first)
    unfolding bytes_in
    within_first h = let k = (behind (drop p.first a) (sym h)).within in (omega arith, omega (arith, length-drop p.first a))

    within-second : {q : Stored} {qs : List Stored} → q ∷ qs ≡ records 4 (drop p.second b) → (6 ≤ bytes_in q) × (bytes_in q ≤ length b - p.second)
    unfolding bytes_in
    within-second h = let k = (behind (drop p.second b) (sym h)).within in (omega arith, omega (arith, length-drop p.second b))

  said-end : (p : Place) → At p [] [] → Said p [] [] (find_from p [] [])
  unfolding find_from entries_from said_of
  said-end p h = record {
    first = [];
    second = [];
    there = h;
    entries = λ _. refl;
    bound = λ k. k;
    end = λ _. refl;
    less = λ e k. let no : ◌≡◌ {A = ℕ} 0 1 = cc in omega arith;
  }

  said-first : (p : Place) (r : Stored) (rs : List Stored) → At p (r ∷ rs) [] → Said p (r ∷ rs) [] (find_from p (r ∷ rs) [])
  unfolding find_from moved_to entries_from said_of
  said-first p r rs h =
      let i = within_first p h.first in
      record {
        first = rs;
        second = [];
        there = record { first = next-first p h.first; second = rw (add-zero p.second) h.second };
        entries = λ k. let n : (p.number + 1) % 2 ^ 64 ≡ suc p.number = omega arith in rw n;
        bound = λ k. omega arith;
        end = λ k. let no : ◌≡◌ {A = ℕ} 0 1 = cc in let none : ⊥ = omega arith in absurd none;
        less = λ e k. omega (arith, i.0, i.1);
      }

  said-second : (p : Place) (q : Stored) (qs : List Stored) → At p [] (q ∷ qs) → Said p [] (q ∷ qs) (find_from p [] (q ∷ qs))
  unfolding find_from moved_to entries_from said_of
  said-second p q qs h =
      let i = within-second p h.second in
      record {
        first = [];
        second = qs;
        there = record { first = rw (add-zero p.first) h.first; second = next-second p h.second };
        entries = λ k. let n : (p.number + 1) % 2 ^ 64 ≡ suc p.number = omega arith in rw n;
        bound = λ k. omega arith;
        end = λ k. let no : ◌≡◌ {A = ℕ} 0 1 = cc in let none : ⊥ = omega arith in absurd none;
        less = λ e k. omega (arith, i.0, i.1);
      }

  said-both : (p : Place) (r q : Stored) (rs qs : List Stored) → At p (r ∷ rs) (q ∷ qs)
      → Said (moved_to p (p.first + bytes_in r) (p.second + bytes_in q)) rs qs (find_from (moved_to p (p.first + bytes_in r) (p.second + bytes_in q)) rs qs)
      → Said p (r ∷ rs) (q ∷ qs) (find_from p (r ∷ rs) (q ∷ qs))
  unfolding find_from moved_to entries_from said_of
  said-both p r q rs qs h next = go (same r q) refl
    where
      i : (6 ≤ bytes_in r) × (bytes_in r ≤ length a - p.first)
      i = within_first p h.first

      j : (6 ≤ bytes_in q) × (bytes_in q ≤ length b - p.second)
      j = within-second p h.second

      go : (t : Bool) → same r q ≡ t → Said p (r ∷ rs) (q ∷ qs) (find_from p (r ∷ rs) (q ∷ qs))
      go true e = rw e record {
        first = next.first;
        second = next.second;
        there = next.there;
        entries = λ k. let n : (p.number + 1) % 2 ^ 64 ≡ suc p.number = omega arith in rw (e, ← n) (next.entries (omega arith));
        bound = λ k. next.bound (omega arith);
        end = next.end;
        less = λ x k. omega (arith, i.0, i.1, j.0, j.1, next.less x k);
      }
      go false e = rw e record {
        first = rs;
        second = qs;
        there = record { first = next-first p h.first; second = next-second p h.second };
        entries = λ k. let n : (p.number + 1) % 2 ^ 64 ≡ suc p.number = omega arith in rw (e, n);
        bound = λ k. omega arith;
        end = λ k. let no : ◌≡◌ {A = ℕ} 0 1 = cc in let none : ⊥ = omega arith in absurd none;
        less = λ x k. omega (arith, i.0, i.1, j.0, j.1);
      }

  at_next : (p : Place) (r q : Stored) (rs qs : List Stored) → At p (r ∷ rs) (q ∷ qs)
      → At (moved_to p (p.first + bytes_in r) (p.second + bytes_in q)) rs qs
  unfolding moved_to
  at_next p r q rs qs h = record { first = next-first p h.first; second = next-second p h.second }

  said : (rs qs : List Stored) (p : Place) → At p rs qs → Said p rs qs (find_from p rs qs)
  said [] [] p h = said-end p h
  said (r ∷ rs) [] p h = said-first p r rs h
  said [] (q ∷ qs) p h = said-second p q qs h
  said (r ∷ rs) (q ∷ qs) p h =
      said-both p r q rs qs h (said rs qs (moved_to p (p.first + bytes_in r) (p.second + bytes_in q)) (at_next p r q rs qs h))

  -- what is said from a place on
  said_at : (p : Place) → Said p (records 4 (drop p.first a)) (records 4 (drop p.second b)) (next_of p a b)
  unfolding next_of
  said_at p = said (records 4 (drop p.first a)) (records 4 (drop p.second b)) p (record { first = refl; second = refl })

-- ---- all calls

lists_from : {a b : List ℕ} {p : Place} {es : List Entry} → Bound a b p.number (records 4 (drop p.first a)) (records 4 (drop p.second b))
    → Lists a b p es → es ≡ entries_from p.number (records 4 (drop p.first a)) (records 4 (drop p.second b))
unfolding said_of
lists_from {a} {b} k (none p h) =
    let s = said_at a b p in
    sym (s.entries k ∙ rw (h) (s.end h))
lists_from {a} {b} k (again p e h next) =
    let s = said_at a b p in
    let l = lists_from (rw (← s.there.first, ← s.there.second) (s.bound k)) next in
    ap (λ (es : List Entry). e ∷ es) (rw (← s.there.first, ← s.there.second) at l) ∙ sym (s.entries k ∙ rw h)

pub lists_all : ListsAll
unfolding entries_of
lists_all a b es l h = lists_from (omega (arith, few a, few b)) h

pub ends : Ends
ends p a b e h = (said_at a b p).less e h
