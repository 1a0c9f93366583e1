-- Demand 3 over any receiver: one statement about a whole list of calls. It is proved in proofs/Demand3.antt.
-- These are definitions: they assume nothing.
use Rattle.std.specs.Prelude.{ℕ, suc, ◌≤◌, ◌<◌, ◌≡◌, true, false, List, [], ◌∷◌, ◌++◌, length, take, drop}
use Rattle.session.specs.Session.{Machine, Feed, Call, feeds, owns, unchanged, feed, own, uncut, session, events}
use Rattle.session.specs.Counts.{receiver_after, records_of, Counted}

module _ (m : Machine) where
  -- What a feed that passes the checks answers and leaves: its number and taken count are those that document 01 defines; the receiver is
  -- the plain one after the bytes taken; the output has the records of these bytes, and past them the bytes that it had; with some input
  -- at least one byte is taken.
  pub record Reads (r : m.Recv) (input out : List ℕ) (f : Feed m.Recv) : Type 0 where
    pub counted : Counted m r (length out) input f.number f.taken
    pub next : f.next ≡ receiver_after m r (take f.taken input)
    pub written : f.written ≡ length (records_of m r (take f.taken input))
    pub records : take f.written f.output ≡ records_of m r (take f.taken input)
    pub rest : drop f.written f.output ≡ drop f.written out
    pub size : length f.output ≡ length out
    pub progress : 0 < length input → 0 < f.taken

  -- What a feed answers and leaves: on a dead channel its dead number, with too short an output 1, both with taken 0, written 0 and no
  -- change of the output or of the receiver; else it reads.
  pub record FeedAnswers (r : m.Recv) (input out : List ℕ) (f : Feed m.Recv) : Type 0 where
    pub dead : (n : ℕ) → m.dead r ≡ suc n → f ≡ unchanged m r out (suc n)
    pub short : m.dead r ≡ 0 → length out < m.longest → f ≡ unchanged m r out 1
    pub reads : m.dead r ≡ 0 → m.longest ≤ length out → Reads r input out f

  -- what a call answers and leaves: the owner's call, what the plain receiver answers
  unfoldable pub Answers : m.Recv → Call → Type 0
  Answers r (feeds input out) = FeedAnswers r input out (feed m r input out)
  Answers r (owns id) = own m r id ≡ m.call r id

  -- Demand 3 of a list of calls: it comes to what the uncut reading comes to, in the receiver at the end, the joined records and the answers
  -- to the owner; and every call of the list, at its place, answers and leaves what is said above.
  pub record Whole (r : m.Recv) (cs : List Call) : Type 0 where
    pub outcome : session m r cs ≡ uncut m r (events m r cs)
    pub calls : (before : List Call) (c : Call) (after : List Call) → cs ≡ before ++ c ∷ after → Answers (session m r before).end c

-- What the theorem asks of a receiver: an invariant under which 2 and 3 do not apply and which bytes and calls keep; a byte that does not
-- close its frame adds no record, and no record is longer than the longest.
pub record Keeps (m : Machine) : Type 1 where
  pub Ok : m.Recv → Type 0
  pub roomy : (r : m.Recv) → Ok r → m.roomy r ≡ true
  pub shaped : (r : m.Recv) → Ok r → m.shaped r ≡ true
  pub plain : (r : m.Recv) → Ok r → m.plain r ≡ true
  pub byte : (r : m.Recv) (b : ℕ) → Ok r → Ok (m.byte r b).next
  pub call : (r : m.Recv) (id : ℕ) → Ok r → Ok (m.call r id).next
  pub quiet : (r : m.Recv) (b : ℕ) → m.closes r b ≡ false → (m.byte r b).adds ≡ []
  pub bound : (r : m.Recv) (b : ℕ) → Ok r → length (m.byte r b).adds ≤ m.longest

abbrev pub Demand3 : Type 1
Demand3 = (m : Machine) (k : Keeps m) (r : m.Recv) → k.Ok r → (cs : List Call) → Whole m r cs
