-- Two receivers that answer alike, byte by byte and call by call, answer alike in every feed, every session and every uncut reading; and a
-- receiver held in another form answers alike. Assumes nothing.
use Prim.Native.Nat.{ℕ, zero, suc, ◌-◌}
use mathlib.Core.Path.{◌≡◌, refl, sym, ap, ◌∙◌}
use mathlib.Core.Bool.{Bool, true, false, ◌&&◌}
use mathlib.Core.List.{List, [], ◌∷◌, ◌++◌}
use lib.ListN.{length, drop}
use lib.Dec.{ltb}
use Rattle.session.specs.Session.{Machine, Reading, Outcome, Call, feeds, owns, Event, took, asked, after, read, unchanged, wrote, feed, own, fed, answered, uncut, session, events}
use Rattle.session.specs.Simulation.{Alike, SameFeed, SameOutcome, Simulation}
use Rattle.session.proofs.Laws.{read_short, read-refused, read_more}

module _ (m n : Machine) (a : Alike m n) where
  record SameReading (g : Reading m.Recv) (h : Reading n.Recv) : Type 0 where
    pub number : g.number ≡ h.number
    pub taken : g.taken ≡ h.taken
    pub records : g.records ≡ h.records
    pub next : a.Rel g.next h.next

  read_alike : (r : m.Recv) (q : n.Recv) (room : ℕ) (input : List ℕ) → a.Rel r q → SameReading (read m r room input) (read n q room input)
  unfolding read after
  read_alike r q room [] k = record { number = refl; taken = refl; records = refl; next = k }
  read_alike r q room (b ∷ bs) k =
      stop (m.closes r b && ltb room m.longest) refl
      (λ l. read_alike (m.byte r b).next (n.byte q b).next l bs (a.byte r q b k))
    where
      IH : Type 0
      IH = (l : ℕ) → SameReading (read m (m.byte r b).next l bs) (read n (n.byte q b).next l bs)

      Goal : Type 0
      Goal = SameReading (read m r room (b ∷ bs)) (read n q room (b ∷ bs))

      eq : (m.closes r b && ltb room m.longest) ≡ (n.closes q b && ltb room n.longest)
      eq = rw (a.closes r q b k, a.longest)

      deq : m.dead (m.byte r b).next ≡ n.dead (n.byte q b).next
      deq = a.dead (m.byte r b).next (n.byte q b).next (a.byte r q b k)

      more : (d : ℕ) → (m.closes r b && ltb room m.longest) ≡ false → m.dead (m.byte r b).next ≡ d → IH → Goal
      more zero e d ih =
          let i = ih (room - length (n.byte q b).adds) in
          rw (read_more m r room b bs e d, read_more n q room b bs (sym eq ∙ e) (sym deq ∙ d), a.adds r q b k)
          (record { number = i.number; taken = ap suc i.taken; records = ap (λ l. (n.byte q b).adds ++ l) i.records; next = i.next })
      more (suc x) e d ih =
          rw (read-refused m r room b bs x e d, read-refused n q room b bs x (sym eq ∙ e) (sym deq ∙ d))
          (record { number = refl; taken = refl; records = a.adds r q b k; next = a.byte r q b k })

      stop : (t : Bool) → (m.closes r b && ltb room m.longest) ≡ t → IH → Goal
      stop true e ih = rw (read_short m r room b bs e, read_short n q room b bs (sym eq ∙ e)) (record { number = refl; taken = refl; records = refl; next = k })
      stop false e ih = more (m.dead (m.byte r b).next) e refl ih

  still : (r : m.Recv) (q : n.Recv) (out : List ℕ) (x : ℕ) → a.Rel r q → SameFeed m n a (unchanged m r out x) (unchanged n q out x)
  unfolding unchanged
  still r q out x k = record { number = refl; taken = refl; written = refl; output = refl; next = k }

  reads : (out : List ℕ) (g : Reading m.Recv) (h : Reading n.Recv) → SameReading g h → SameFeed m n a (wrote m out g) (wrote n out h)
  unfolding wrote
  reads out g h s =
      record { number = s.number; taken = s.taken; written = ap length s.records; output = ap (λ l. l ++ drop (length l) out) s.records; next = s.next }

  feed-alike : (r : m.Recv) (q : n.Recv) (input out : List ℕ) → a.Rel r q → SameFeed m n a (feed m r input out) (feed n q input out)
  unfolding feed
  feed-alike r q input out k = go (n.roomy q) (n.shaped q) (n.dead q) (ltb (length out) n.longest) refl refl refl refl
    where
      room : (l : Bool) → ltb (length out) n.longest ≡ l → ltb (length out) m.longest ≡ l
      room l e = ap (λ (x : ℕ). ltb (length out) x) a.longest ∙ e

      go : (x y : Bool) (d : ℕ) (l : Bool) → n.roomy q ≡ x → n.shaped q ≡ y → n.dead q ≡ d → ltb (length out) n.longest ≡ l → SameFeed m n a (feed m r input out) (feed n q input out)
      go false y d l e₁ e₂ e₃ e₄ = rw (a.roomy r q k, e₁, feed) (still r q out 2 k)
      go true false d l e₁ e₂ e₃ e₄ = rw (a.roomy r q k, e₁, a.shaped r q k, e₂, feed) (still r q out 3 k)
      go true true (suc d) l e₁ e₂ e₃ e₄ = rw (a.roomy r q k, e₁, a.shaped r q k, e₂, a.dead r q k, e₃, feed) (still r q out (suc d) k)
      go true true zero true e₁ e₂ e₃ e₄ = rw (a.roomy r q k, e₁, a.shaped r q k, e₂, a.dead r q k, e₃, room true e₄, e₄, feed) (still r q out 1 k)
      go true true zero false e₁ e₂ e₃ e₄ =
          rw (a.roomy r q k, e₁, a.shaped r q k, e₂, a.dead r q k, e₃, room false e₄, e₄, feed) (reads out (read m r (length out) input) (read n q (length out) input) (read_alike r q (length out) input k))

  own-alike : (r : m.Recv) (q : n.Recv) (id : ℕ) → a.Rel r q → ((own m r id).number ≡ (own n q id).number) × a.Rel (own m r id).next (own n q id).next
  unfolding own
  own-alike r q id k = go (n.plain q) refl
    where
      go : (x : Bool) → n.plain q ≡ x → ((own m r id).number ≡ (own n q id).number) × a.Rel (own m r id).next (own n q id).next
      go true e = rw (a.plain r q k, e, own) (a.number r q id k, a.call r q id k)
      go false e = rw (a.plain r q k, e, own) (refl, k)

  -- ---- whole sessions

  same-fed : (x y : List ℕ) (o : Outcome m.Recv) (u : Outcome n.Recv) → x ≡ y → SameOutcome m n a o u → SameOutcome m n a (fed x o) (fed y u)
  unfolding fed
  same-fed x y o u e s = record { end = s.end; records = rw (e, s.records); answers = s.answers }

  same-answered : (x y : ℕ) (o : Outcome m.Recv) (u : Outcome n.Recv) → x ≡ y → SameOutcome m n a o u → SameOutcome m n a (answered x o) (answered y u)
  unfolding answered
  same-answered x y o u e s = record { end = s.end; records = s.records; answers = rw (e, s.answers) }

  uncut-alike : (r : m.Recv) (q : n.Recv) (es : List Event) → a.Rel r q → SameOutcome m n a (uncut m r es) (uncut n q es)
  unfolding uncut
  uncut-alike r q [] k = record { end = k; records = refl; answers = refl }
  uncut-alike r q (took b ∷ es) k = same-fed _ _ _ _ (a.adds r q b k) (uncut-alike (m.byte r b).next (n.byte q b).next es (a.byte r q b k))
  uncut-alike r q (asked id ∷ es) k = same-answered _ _ _ _ (a.number r q id k) (uncut-alike (m.call r id).next (n.call q id).next es (a.call r q id k))

  session-alike : (r : m.Recv) (q : n.Recv) (cs : List Call) → a.Rel r q → SameOutcome m n a (session m r cs) (session n q cs)
  unfolding session
  session-alike r q [] k = record { end = k; records = refl; answers = refl }
  session-alike r q (feeds input out ∷ cs) k =
      let f = feed-alike r q input out k in
      same-fed _ _ _ _ (rw (f.written, f.output)) (session-alike (feed m r input out).next (feed n q input out).next cs f.next)
  session-alike r q (owns id ∷ cs) k =
      let o = own-alike r q id k in
      same-answered _ _ _ _ o.0 (session-alike (own m r id).next (own n q id).next cs o.1)

  events-alike : (r : m.Recv) (q : n.Recv) (cs : List Call) → a.Rel r q → events m r cs ≡ events n q cs
  unfolding events
  events-alike r q [] k = refl
  events-alike r q (feeds input out ∷ cs) k =
      let f = feed-alike r q input out k in
      rw (f.taken, events-alike (feed m r input out).next (feed n q input out).next cs f.next)
  events-alike r q (owns id ∷ cs) k = ap (λ (l : List Event). asked id ∷ l) (events-alike (own m r id).next (own n q id).next cs (own-alike r q id k).1)

pub simulation : Simulation
simulation m n a r q k = record {
  feeds = λ input out. feed-alike m n a r q input out k;
  owns = λ id. own-alike m n a r q id k;
  sessions = λ cs. session-alike m n a r q cs k;
  events = λ cs. events-alike m n a r q cs k;
  uncuts = λ es. uncut-alike m n a r q es k;
}

-- ---- a receiver held in another form: each step reads the old form out of it and puts the new one back

module _ (m : Machine) (R : Type 0) (old : R → m.Recv) (new : m.Recv → R) where
  abbrev pub recast : Machine
  recast = record {
    Recv = R;
    roomy = λ q. m.roomy (old q);
    shaped = λ q. m.shaped (old q);
    plain = λ q. m.plain (old q);
    dead = λ q. m.dead (old q);
    closes = λ q b. m.closes (old q) b;
    longest = m.longest;
    byte = λ q b. record { next = new (m.byte (old q) b).next; adds = (m.byte (old q) b).adds };
    call = λ q id. record { next = new (m.call (old q) id).next; number = (m.call (old q) id).number };
  }

  -- where the old form comes back from the new one, for receivers that keep K, the two answer alike
  pub recast-alike : (K : m.Recv → Type 0) → ((r : m.Recv) (b : ℕ) → K r → K (m.byte r b).next) → ((r : m.Recv) (id : ℕ) → K r → K (m.call r id).next)
      → ((r : m.Recv) → K r → old (new r) ≡ r) → Alike m recast
  recast-alike K kb kc back = record {
    Rel = λ r q. (r ≡ old q) × K r;
    longest = refl;
    roomy = λ r q h. ap m.roomy h.0;
    shaped = λ r q h. ap m.shaped h.0;
    plain = λ r q h. ap m.plain h.0;
    dead = λ r q h. ap m.dead h.0;
    closes = λ r q b h. ap (λ (x : m.Recv). m.closes x b) h.0;
    adds = λ r q b h. ap (λ (x : m.Recv). (m.byte x b).adds) h.0;
    byte = λ r q b h. (sym (ap (λ (x : m.Recv). old (new (m.byte x b).next)) (sym h.0) ∙ back (m.byte r b).next (kb r b h.1)), kb r b h.1);
    number = λ r q id h. ap (λ (x : m.Recv). (m.call x id).number) h.0;
    call = λ r q id h. (sym (ap (λ (x : m.Recv). old (new (m.call x id).next)) (sym h.0) ∙ back (m.call r id).next (kc r id h.1)), kc r id h.1);
  }
