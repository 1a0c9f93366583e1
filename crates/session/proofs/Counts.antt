-- A reading's number and taken count are those that `Counts` defines, no other number and count are, and the bytes that it took, read
-- uncut, come to its receiver and its records. Assumes nothing.
use Prim.Native.Nat.{ℕ, zero, suc, ◌+◌, ◌-◌, ◌<◌}
use mathlib.Core.Path.{◌≡◌, refl, sym, ap, ◌∙◌}
use mathlib.Core.Bool.{Bool, true, false, ◌&&◌, false≢true}
use mathlib.Core.List.{List, [], ◌∷◌, map, append-nil}
use native.Mathlib.Nat.{not-suc-le-zero}
use native.Mathlib.Omega.{arith}
use lib.ListN.{length, take, length-append}
use lib.Dec.{ltb}
use borrow.Author.Tests.{ltb-true, ltb-false}
use Rattle.session.specs.Session.{Machine, Outcome, took, after, read, fed, uncut}
use Rattle.session.specs.Counts.{receiver_after, records_of, stops_before, dead_after, Ended, at_end, short, refused, Counted, CountedOnce}
use Rattle.session.proofs.Laws.{read-case, read-uncut}

module _ (m : Machine) where
  -- one byte more in front
  room-less : (room a c : ℕ) → room - (a + c) ≡ room - a - c
  room-less room a c = omega arith

  module _ (r : m.Recv) (room b : ℕ) (bs : List ℕ) where
    abbrev left : ℕ
    left = room - length (m.byte r b).adds

    stops_later : (i : ℕ) → stops_before m r room (b ∷ bs) (suc i) ≡ stops_before m (m.byte r b).next left bs i
    unfolding stops_before receiver_after records_of uncut fed
    stops_later i = rw (length-append (m.byte r b).adds (records_of m (m.byte r b).next (take i bs)), room-less room (length (m.byte r b).adds) _)

    dead-later : (i : ℕ) → dead_after m r room (b ∷ bs) (suc i) ≡ dead_after m (m.byte r b).next left bs i
    unfolding dead_after receiver_after uncut fed
    dead-later i = refl

    stops_first : stops_before m r room (b ∷ bs) 0 ≡ (m.closes r b && ltb room m.longest)
    unfolding stops_before receiver_after records_of uncut
    stops_first = let e : room - 0 ≡ room = omega arith in rw e

    dead-first : dead_after m r room (b ∷ bs) 1 ≡ m.dead (m.byte r b).next
    unfolding dead_after receiver_after uncut fed
    dead-first = refl

    abbrev C : ℕ → ℕ → Type 0
    C = Counted m r room (b ∷ bs)

    none_below : {A : Type 0} (i : ℕ) → i < 0 → A
    none_below i h = absurd (not-suc-le-zero h)

    counted-short : (m.closes r b && ltb room m.longest) ≡ true → C 5 0
    counted-short e = record {
      within = λ i h. none_below i h;
      goes_on = λ i h. none_below i h;
      lives = λ i k h. none_below i h;
      ended = short (omega arith) (λ h. none_below 0 h) (stops_first ∙ e);
    }

    first : (i : ℕ) → i < 1 → (m.closes r b && ltb room m.longest) ≡ false → stops_before m r room (b ∷ bs) i ≡ false
    first zero h e = stops_first ∙ e
    first (suc i) h e = absurd (omega arith)

    counted-refused : (n : ℕ) → (m.closes r b && ltb room m.longest) ≡ false → m.dead (m.byte r b).next ≡ suc n → C (suc n) 1
    counted-refused n e d = record {
      within = λ i h. omega arith;
      goes_on = λ i h. first i h e;
      lives = λ i k h. absurd (omega arith);
      ended = refused (omega arith) (dead-first ∙ d);
    }

    -- the rest is counted from the next receiver on
    module _ (number taken : ℕ) (e : (m.closes r b && ltb room m.longest) ≡ false) (d : m.dead (m.byte r b).next ≡ 0)
        (c : Counted m (m.byte r b).next left bs number taken) where
      within_more : (i : ℕ) → i < suc taken → i < length (b ∷ bs)
      within_more zero h = omega arith
      within_more (suc i) h = let k = c.within i (omega arith) in omega arith

      goes-more : (i : ℕ) → i < suc taken → stops_before m r room (b ∷ bs) i ≡ false
      goes-more zero h = stops_first ∙ e
      goes-more (suc i) h = stops_later i ∙ c.goes_on i (omega arith)

      live-next : (j : ℕ) → (0 < j → dead_after m (m.byte r b).next left bs j ≡ 0) → dead_after m r room (b ∷ bs) (suc j) ≡ 0
      live-next zero h = dead-first ∙ d
      live-next (suc j) h = dead-later (suc j) ∙ h (omega arith)

      lives_more : (i : ℕ) → 0 < i → i < suc taken → dead_after m r room (b ∷ bs) i ≡ 0
      lives_more zero k h = absurd (omega arith)
      lives_more (suc j) k h = live-next j (λ p. c.lives j p (omega arith))

      ended-more : {n : ℕ} → Ended m (m.byte r b).next left bs taken n → Ended m r room (b ∷ bs) (suc taken) n
      ended-more (at_end h l) = at_end (ap suc h) (λ p. live-next taken l)
      ended-more (short h l t) = short (omega arith) (λ p. live-next taken l) (stops_later taken ∙ t)
      ended-more (refused h k) = refused (omega arith) (dead-later taken ∙ k)

      counted-more : C number (suc taken)
      counted-more = record { within = within_more; goes_on = goes-more; lives = lives_more; ended = ended-more c.ended }

  counted_none : (r : m.Recv) (room : ℕ) → Counted m r room [] 0 0
  counted_none r room = record {
    within = λ i h. absurd (not-suc-le-zero h);
    goes_on = λ i h. absurd (not-suc-le-zero h);
    lives = λ i k h. absurd (not-suc-le-zero h);
    ended = at_end refl (λ h. absurd (not-suc-le-zero h));
  }

  -- a reading's number and taken count are those defined
  pub read-counted : (r : m.Recv) (room : ℕ) (input : List ℕ) → Counted m r room input (read m r room input).number (read m r room input).taken
  unfolding after
  read-counted =
      read-case m (λ r room input g. Counted m r room input g.number g.taken)
      counted_none
      counted-short
      counted-refused
      (λ r room b bs g e d c. counted-more r room b bs g.number g.taken e d c)

  -- the bytes that it took, read uncut, come to its receiver and its records
  pub read_plain : (r : m.Recv) (room : ℕ) (input : List ℕ)
      → let g = read m r room input in uncut m r (map took (take g.taken input)) ≡ record { end = g.next; records = g.records; answers = [] }
  unfolding uncut fed
  read_plain r room input =
      let g = read m r room input in
      let comes : List ℕ → Outcome m.Recv = λ l. record { end = g.next; records = l; answers = [] } in
      ap (uncut m r) (sym (append-nil (map took (take g.taken input)))) ∙ read-uncut m r room input [] ∙ ap comes (append-nil g.records)

  -- and no other number and count are
  module _ (r : m.Recv) (room : ℕ) (input : List ℕ) where
    -- a call that ended does not go on
    no_later : {p t q u : ℕ} → Counted m r room input p t → Counted m r room input q u → t < u → ⊥
    no_later {t = t} c d h = go c.ended
      where
        go : {n : ℕ} → Ended m r room input t n → ⊥
        go (at_end e l) = let k = d.within t h in omega arith
        go (short e l s) = false≢true (sym (d.goes_on t h) ∙ s)
        go (refused e k) = omega (arith, d.lives t e h, k)

    one_number : {t p q : ℕ} → Ended m r room input t p → Ended m r room input t q → p ≡ q
    one_number (at_end e l) (at_end f k) = refl
    one_number (at_end e l) (short f k s) = absurd (omega arith)
    one_number (at_end e l) (refused f k) = absurd (omega (arith, l f, k))
    one_number (short f k s) (at_end e l) = absurd (omega arith)
    one_number (short f k s) (short e l u) = refl
    one_number (short f k s) (refused e l) = absurd (omega (arith, k e, l))
    one_number (refused f k) (at_end e l) = absurd (omega (arith, l f, k))
    one_number (refused f k) (short e l u) = absurd (omega (arith, l f, k))
    one_number (refused f k) (refused e l) = sym k ∙ l

    same_count : {p t q u : ℕ} → Counted m r room input p t → Counted m r room input q u → t ≡ u
    same_count {t = t} {u = u} c d = by (ltb t u) refl (ltb u t) refl
      where
        by : (a : Bool) → ltb t u ≡ a → (b : Bool) → ltb u t ≡ b → t ≡ u
        by true e b f = absurd (no_later c d (ltb-true t u e))
        by false e true f = absurd (no_later d c (ltb-true u t f))
        by false e false f = omega (arith, ltb-false t u e, ltb-false u t f)

    once : (p t q u : ℕ) → Counted m r room input p t → Counted m r room input q u → (p ≡ q) × (t ≡ u)
    once p t q u c d =
        let e = same_count c d in
        (one_number c.ended (rw e d.ended), e)

pub counted_once : CountedOnce
counted_once = once
