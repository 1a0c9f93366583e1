-- Two receivers that answer alike, byte by byte and call by call, answer alike in every feed, every session and every uncut reading. It is
-- proved in proofs/Simulation.antt. These are definitions: they assume nothing.
use Rattle.std.specs.Prelude.{ℕ, ◌≡◌, List}
use Rattle.session.specs.Session.{Machine, Feed, Outcome, Call, Event, feed, own, uncut, session, events}

-- receivers that are related answer alike, and stay related
pub record Alike (m n : Machine) : Type 1 where
  pub Rel : m.Recv → n.Recv → Type 0
  pub longest : m.longest ≡ n.longest
  pub roomy : (r : m.Recv) (q : n.Recv) → Rel r q → m.roomy r ≡ n.roomy q
  pub shaped : (r : m.Recv) (q : n.Recv) → Rel r q → m.shaped r ≡ n.shaped q
  pub plain : (r : m.Recv) (q : n.Recv) → Rel r q → m.plain r ≡ n.plain q
  pub dead : (r : m.Recv) (q : n.Recv) → Rel r q → m.dead r ≡ n.dead q
  pub closes : (r : m.Recv) (q : n.Recv) (b : ℕ) → Rel r q → m.closes r b ≡ n.closes q b
  pub adds : (r : m.Recv) (q : n.Recv) (b : ℕ) → Rel r q → (m.byte r b).adds ≡ (n.byte q b).adds
  pub byte : (r : m.Recv) (q : n.Recv) (b : ℕ) → Rel r q → Rel (m.byte r b).next (n.byte q b).next
  pub number : (r : m.Recv) (q : n.Recv) (id : ℕ) → Rel r q → (m.call r id).number ≡ (n.call q id).number
  pub call : (r : m.Recv) (q : n.Recv) (id : ℕ) → Rel r q → Rel (m.call r id).next (n.call q id).next

module _ (m n : Machine) (a : Alike m n) where
  pub record SameFeed (f : Feed m.Recv) (g : Feed n.Recv) : Type 0 where
    pub number : f.number ≡ g.number
    pub taken : f.taken ≡ g.taken
    pub written : f.written ≡ g.written
    pub output : f.output ≡ g.output
    pub next : a.Rel f.next g.next

  pub record SameOutcome (o : Outcome m.Recv) (u : Outcome n.Recv) : Type 0 where
    pub end : a.Rel o.end u.end
    pub records : o.records ≡ u.records
    pub answers : o.answers ≡ u.answers

-- every feed, every call of the owner, every session with the bytes that it takes, and every uncut reading
pub record SameEverywhere (m n : Machine) (a : Alike m n) (r : m.Recv) (q : n.Recv) : Type 0 where
  pub feeds : (input out : List ℕ) → SameFeed m n a (feed m r input out) (feed n q input out)
  pub owns : (id : ℕ) → ((own m r id).number ≡ (own n q id).number) × a.Rel (own m r id).next (own n q id).next
  pub sessions : (cs : List Call) → SameOutcome m n a (session m r cs) (session n q cs)
  pub events : (cs : List Call) → events m r cs ≡ events n q cs
  pub uncuts : (es : List Event) → SameOutcome m n a (uncut m r es) (uncut n q es)

abbrev pub Simulation : Type 1
Simulation = (m n : Machine) (a : Alike m n) (r : m.Recv) (q : n.Recv) → a.Rel r q → SameEverywhere m n a r q
