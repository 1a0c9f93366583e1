-- Reading and feed, case by case, over any receiver; that the invariant is kept, and that a session comes to what the uncut reading comes to.
-- Assumes nothing.
use Prim.Native.Nat.{ℕ, zero, suc, ◌+◌, ◌-◌, ◌≤◌}
use mathlib.Core.Path.{◌≡◌, refl, sym, ap, ◌∙◌, subst}
use mathlib.Core.Bool.{Bool, true, false, ◌&&◌}
use mathlib.Core.List.{List, [], ◌∷◌, ◌++◌, map, append_assoc}
use native.Mathlib.Nat.{zero-add}
use native.Mathlib.Omega.{arith}
use lib.ListN.{length, take, length-append}
use lib.Seq.{take-append_seam}
use lib.Dec.{ltb}
use borrow.Author.Tests.{ltb-false}
use Rattle.session.specs.Demand3.{Keeps}
use Rattle.session.specs.Session.{Machine, Feed, Reading, Outcome, Call, feeds, owns, Event, took, asked, after, read, unchanged, wrote, feed, own, fed, answered, uncut, session, events}

pub not-zero : (n : ℕ) → suc n ≡ 0 → ⊥
not-zero n e = omega arith

module _ (m : Machine) where
  -- ---- reading, case by case

  pub read_short : (r : m.Recv) (room b : ℕ) (bs : List ℕ) → (m.closes r b && ltb room m.longest) ≡ true
      → read m r room (b ∷ bs) ≡ record { number = 5; taken = 0; next = r; records = [] }
  unfolding read
  read_short r room b bs e = rw (e, read)

  pub read-refused : (r : m.Recv) (room b : ℕ) (bs : List ℕ) (n : ℕ) → (m.closes r b && ltb room m.longest) ≡ false → m.dead (m.byte r b).next ≡ suc n
      → read m r room (b ∷ bs) ≡ record { number = suc n; taken = 1; next = (m.byte r b).next; records = (m.byte r b).adds }
  unfolding read
  read-refused r room b bs n e d = rw (e, d, read)

  pub read_more : (r : m.Recv) (room b : ℕ) (bs : List ℕ) → (m.closes r b && ltb room m.longest) ≡ false → m.dead (m.byte r b).next ≡ 0
      → read m r room (b ∷ bs) ≡ after (m.byte r b).adds (read m (m.byte r b).next (room - length (m.byte r b).adds) bs)
  unfolding read
  read_more r room b bs e d = rw (e, d, read)

  -- what holds of every reading: of one that has no input, that 5 stops, that a refusal ends, and that goes on with what holds of the rest
  pub read-case : (P : m.Recv → ℕ → List ℕ → Reading m.Recv → Type 0)
      → ((r : m.Recv) (room : ℕ) → P r room [] (record { number = 0; taken = 0; next = r; records = [] }))
      → ((r : m.Recv) (room b : ℕ) (bs : List ℕ) → (m.closes r b && ltb room m.longest) ≡ true → P r room (b ∷ bs) (record { number = 5; taken = 0; next = r; records = [] }))
      → ((r : m.Recv) (room b : ℕ) (bs : List ℕ) (n : ℕ) → (m.closes r b && ltb room m.longest) ≡ false → m.dead (m.byte r b).next ≡ suc n
      → P r room (b ∷ bs) (record { number = suc n; taken = 1; next = (m.byte r b).next; records = (m.byte r b).adds }))
      → ((r : m.Recv) (room b : ℕ) (bs : List ℕ) (g : Reading m.Recv) → (m.closes r b && ltb room m.longest) ≡ false → m.dead (m.byte r b).next ≡ 0
      → P (m.byte r b).next (room - length (m.byte r b).adds) bs g → P r room (b ∷ bs) (after (m.byte r b).adds g))
      → (r : m.Recv) (room : ℕ) (xs : List ℕ) → P r room xs (read m r room xs)
  unfolding read
  read-case P none short ends on r room [] = none r room
  read-case P none short ends on r room (b ∷ bs) =
      stop (m.closes r b && ltb room m.longest) refl (read-case P none short ends on (m.byte r b).next (room - length (m.byte r b).adds) bs)
    where
      rest : Reading m.Recv
      rest = read m (m.byte r b).next (room - length (m.byte r b).adds) bs

      more : (d : ℕ) → (m.closes r b && ltb room m.longest) ≡ false → m.dead (m.byte r b).next ≡ d
          → P (m.byte r b).next (room - length (m.byte r b).adds) bs rest → P r room (b ∷ bs) (read m r room (b ∷ bs))
      more zero e d ih = subst (P r room (b ∷ bs)) (sym (read_more r room b bs e d)) (on r room b bs rest e d ih)
      more (suc n) e d ih = subst (P r room (b ∷ bs)) (sym (read-refused r room b bs n e d)) (ends r room b bs n e d)

      stop : (t : Bool) → (m.closes r b && ltb room m.longest) ≡ t → P (m.byte r b).next (room - length (m.byte r b).adds) bs rest
          → P r room (b ∷ bs) (read m r room (b ∷ bs))
      stop true e ih = subst (P r room (b ∷ bs)) (sym (read_short r room b bs e)) (short r room b bs e)
      stop false e ih = more (m.dead (m.byte r b).next) e refl ih

  -- the bytes that a reading took, read uncut, come to what the reading came to
  abbrev AsUncut : m.Recv → List ℕ → List Event → Reading m.Recv → Type 0
  AsUncut r input es g = uncut m r (map took (take g.taken input) ++ es) ≡ fed g.records (uncut m g.next es)

  fed-fed : (a b : List ℕ) (o : Outcome m.Recv) → fed a (fed b o) ≡ fed (a ++ b) o
  unfolding fed
  fed-fed a b o = rw append_assoc

  pub read-uncut : (r : m.Recv) (room : ℕ) (input : List ℕ) (es : List Event) → AsUncut r input es (read m r room input)
  unfolding fed uncut after
  read-uncut r room input es =
      read-case (λ r room input g. AsUncut r input es g)
      (λ r room. refl)
      (λ r room b bs e. refl)
      (λ r room b bs n e d. refl)
      (λ r room b bs g e d ih. ap (fed (m.byte r b).adds) ih ∙ fed-fed (m.byte r b).adds g.records (uncut m g.next es))
      r room input

  -- ---- a feed: refused without change, or a reading

  module _ (r : m.Recv) (input out : List ℕ) where
    pub feed-small : m.roomy r ≡ false → feed m r input out ≡ unchanged m r out 2
    unfolding feed
    feed-small a = rw (a, feed)

    module _ (a : m.roomy r ≡ true) where
      pub feed-unshaped : m.shaped r ≡ false → feed m r input out ≡ unchanged m r out 3
      unfolding feed
      feed-unshaped b = rw (a, b, feed)

      module _ (b : m.shaped r ≡ true) where
        pub feed-dead : (n : ℕ) → m.dead r ≡ n → (n ≡ 0 → ⊥) → feed m r input out ≡ unchanged m r out n
        unfolding feed
        feed-dead zero c h = absurd (h refl)
        feed-dead (suc n) c h = rw (a, b, c, feed)

        pub feed-short : m.dead r ≡ 0 → ltb (length out) m.longest ≡ true → feed m r input out ≡ unchanged m r out 1
        unfolding feed
        feed-short c d = rw (a, b, c, d, feed)

        pub feed-reads : m.dead r ≡ 0 → ltb (length out) m.longest ≡ false → feed m r input out ≡ wrote m out (read m r (length out) input)
        unfolding feed
        feed-reads c d = rw (a, b, c, d, feed)

  pub data Fed (r : m.Recv) (input out : List ℕ) : Feed m.Recv → Type 0 where
    still : (n : ℕ) → Fed r input out (unchanged m r out n)
    reads : Fed r input out (wrote m out (read m r (length out) input))

  pub feed_cases : (r : m.Recv) (input out : List ℕ) → Fed r input out (feed m r input out)
  feed_cases r input out = roomy (m.roomy r) refl
    where
      F : Type 0
      F = Fed r input out (feed m r input out)

      short : (t : Bool) → m.roomy r ≡ true → m.shaped r ≡ true → m.dead r ≡ 0 → ltb (length out) m.longest ≡ t → F
      short true a b c d = subst (Fed r input out) (sym (feed-short r input out a b c d)) (still 1)
      short false a b c d = subst (Fed r input out) (sym (feed-reads r input out a b c d)) reads

      dead : (n : ℕ) → m.roomy r ≡ true → m.shaped r ≡ true → m.dead r ≡ n → F
      dead zero a b c = short (ltb (length out) m.longest) a b c refl
      dead (suc n) a b c = subst (Fed r input out) (sym (feed-dead r input out a b (suc n) c (not-zero n))) (still (suc n))

      shaped : (t : Bool) → m.roomy r ≡ true → m.shaped r ≡ t → F
      shaped true a b = dead (m.dead r) a b refl
      shaped false a b = subst (Fed r input out) (sym (feed-unshaped r input out a b)) (still 3)

      roomy : (t : Bool) → m.roomy r ≡ t → F
      roomy true a = shaped (m.shaped r) a refl
      roomy false a = subst (Fed r input out) (sym (feed-small r input out a)) (still 2)

  -- ---- the invariant is kept

  module _ (k : Keeps m) where
    pub read_keeps : (r : m.Recv) (room : ℕ) (input : List ℕ) → k.Ok r → k.Ok (read m r room input).next
    unfolding after
    read_keeps =
        read-case (λ r room input g. k.Ok r → k.Ok g.next)
        (λ r room h. h)
        (λ r room b bs e h. h)
        (λ r room b bs n e d h. k.byte r b h)
        (λ r room b bs g e d ih h. ih (k.byte r b h))

    -- a byte's record fits the output that is left, and so do the records of a reading
    adds_fit : (r : m.Recv) (room b : ℕ) → k.Ok r → (c : Bool) → m.closes r b ≡ c → (c && ltb room m.longest) ≡ false → length (m.byte r b).adds ≤ room
    adds_fit r room b h true c e = omega (arith, k.bound r b h, ltb-false room m.longest e)
    adds_fit r room b h false c e = rw (k.quiet r b c) (omega arith)

    pub read_fits : (r : m.Recv) (room : ℕ) (input : List ℕ) → k.Ok r → length (read m r room input).records ≤ room
    unfolding after
    read_fits =
        read-case (λ r room input g. k.Ok r → length g.records ≤ room)
        (λ r room h. omega arith)
        (λ r room b bs e h. omega arith)
        (λ r room b bs n e d h. adds_fit r room b h (m.closes r b) refl e)
        (λ r room b bs g e d ih h.
        let l : length (m.byte r b).adds ≤ room = adds_fit r room b h (m.closes r b) refl e in
        let i = ih (k.byte r b h) in
        rw (length-append (m.byte r b).adds g.records) (omega arith))

    feed-keeps : (r : m.Recv) (input out : List ℕ) → k.Ok r → k.Ok (feed m r input out).next
    unfolding unchanged wrote
    feed-keeps r input out h = go (feed m r input out) (feed_cases r input out)
      where
        go : (f : Feed m.Recv) → Fed r input out f → k.Ok f.next
        go f (still n) = h
        go f reads = read_keeps r (length out) input h

    pub own_is : (r : m.Recv) (id : ℕ) → k.Ok r → own m r id ≡ m.call r id
    unfolding own
    own_is r id h = rw (k.plain r h, own)

    -- ---- a session comes to what the uncut reading comes to

    one-feed : (r : m.Recv) (input out : List ℕ) (cs : List Call) (f : Feed m.Recv) → Fed r input out f
        → session m f.next cs ≡ uncut m f.next (events m f.next cs)
        → fed (take f.written f.output) (session m f.next cs) ≡ uncut m r (map took (take f.taken input) ++ events m f.next cs)
    unfolding unchanged wrote fed
    one-feed r input out cs f (still n) ih = ih
    one-feed r input out cs f reads ih =
        let g : Reading m.Recv = read m r (length out) input in
        ap (λ (l : List ℕ). fed l (session m g.next cs)) (take-append_seam g.records _)
        ∙ ap (fed g.records) ih ∙ sym (read-uncut r (length out) input (events m g.next cs))

    pub session-uncut : (r : m.Recv) → k.Ok r → (cs : List Call) → session m r cs ≡ uncut m r (events m r cs)
    unfolding session events uncut
    session-uncut r h [] = refl
    session-uncut r h (feeds input out ∷ cs) =
        one-feed r input out cs (feed m r input out) (feed_cases r input out) (session-uncut (feed m r input out).next (feed-keeps r input out h) cs)
    session-uncut r h (owns id ∷ cs) =
        rw (own_is r id h) (ap (answered (m.call r id).number) (session-uncut (m.call r id).next (k.call r id h) cs))

    -- 2 and 3 never arise later
    pub uncut-keeps : (r : m.Recv) → k.Ok r → (es : List Event) → k.Ok (uncut m r es).end
    unfolding uncut fed answered
    uncut-keeps r h [] = h
    uncut-keeps r h (took b ∷ es) = uncut-keeps (m.byte r b).next (k.byte r b h) es
    uncut-keeps r h (asked id ∷ es) = uncut-keeps (m.call r id).next (k.call r id h) es

    pub session-keeps : (r : m.Recv) → k.Ok r → (cs : List Call) → k.Ok (session m r cs).end
    session-keeps r h cs = rw (session-uncut r h cs) (uncut-keeps r h (events m r cs))

-- ---- for a loop over the input: what has been read so far, and the reading that is left

abbrev pub behind : {R : Type 0} → ℕ → List ℕ → Reading R → Reading R
behind n recs g = record { number = g.number; taken = n + g.taken; next = g.next; records = recs ++ g.records }

pub behind-none : {R : Type 0} (g : Reading R) → g ≡ behind 0 [] g
behind-none g = rw zero-add

-- a feed on a receiver to which neither 2 nor 3 applies
pub feed_open : (m : Machine) (k : Keeps m) (r : m.Recv) (input out : List ℕ) → k.Ok r
    → feed m r input out ≡ elim (m.dead r) as (λ _. Feed m.Recv) [
      | suc n ↦ unchanged m r out (suc n)
      | zero ↦ elim (ltb (length out) m.longest) as (λ _. Feed m.Recv) [ true ↦ unchanged m r out 1 | false ↦ wrote m out (read m r (length out) input) ]
    ]
unfolding feed
feed_open m k r input out h = rw (k.roomy r h, k.shaped r h, feed)
