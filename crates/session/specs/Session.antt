-- Feed, sessions and the uncut reading, over any receiver, as document 01, "When each judgement is made", states them. Nothing here knows
-- what a frame is. These are definitions: they assume nothing.
use Rattle.std.specs.Prelude.{ℕ, zero, suc, ◌-◌, Bool, true, false, ◌&&◌, List, [], ◌∷◌, ◌++◌, map, length, take, drop, ltb}

-- a receiver after a byte, and the record that the byte added
pub record Step (R : Type 0) : Type 0 where
  pub next : R
  pub adds : List ℕ

-- a receiver after the owner's call, and the call's answer
pub record Reply (R : Type 0) : Type 0 where
  pub next : R
  pub number : ℕ

pub record Machine : Type 1 where
  pub Recv : Type 0
  -- 2 does not apply; 3 does not apply; of 3, what the owner's call checks does not apply
  pub roomy : Recv → Bool
  pub shaped : Recv → Bool
  pub plain : Recv → Bool
  -- 0 while live
  pub dead : Recv → ℕ
  -- the next byte is the last of its frame
  pub closes : Recv → ℕ → Bool
  -- the length of the longest record
  pub longest : ℕ
  -- one byte, and one call of the owner, on a plain receiver
  pub byte : Recv → ℕ → Step Recv
  pub call : Recv → ℕ → Reply Recv

-- ---- feed, as document 01 defines it

pub record Feed (R : Type 0) : Type 0 where
  pub number : ℕ
  pub taken : ℕ
  pub written : ℕ
  pub next : R
  pub output : List ℕ

-- what reading comes to: its number, the count of bytes taken, the receiver, the records
pub record Reading (R : Type 0) : Type 0 where
  pub number : ℕ
  pub taken : ℕ
  pub next : R
  pub records : List ℕ

-- one more byte was taken, which added a record, before the rest was read
unfoldable pub after : {R : Type 0} → List ℕ → Reading R → Reading R
after new rest = record { number = rest.number; taken = suc rest.taken; next = rest.next; records = new ++ rest.records }

module _ (m : Machine) where
  -- reads on until the input ends, 5 or a refusal; room is what is left of the output
  unfoldable pub read : m.Recv → ℕ → List ℕ → Reading m.Recv
  read r room [] = record { number = 0; taken = 0; next = r; records = [] }
  read r room (b ∷ bs) =
      elim (m.closes r b && ltb room m.longest) [
        | true ↦ record { number = 5; taken = 0; next = r; records = [] }
        | false ↦
            let s = m.byte r b in
            elim (m.dead s.next) [
              | zero ↦ after s.adds (read s.next (room - length s.adds) bs)
              | suc n ↦ record { number = suc n; taken = 1; next = s.next; records = s.adds }
            ]
      ]

  unfoldable pub unchanged : m.Recv → List ℕ → ℕ → Feed m.Recv
  unchanged r out n = record { number = n; taken = 0; written = 0; next = r; output = out }

  unfoldable pub wrote : List ℕ → Reading m.Recv → Feed m.Recv
  wrote out g = record {
    number = g.number;
    taken = g.taken;
    written = length g.records;
    next = g.next;
    output = g.records ++ drop (length g.records) out;
  }

  -- 2, 3, dead, 1, in that order, then reading
  unfoldable pub feed : m.Recv → List ℕ → List ℕ → Feed m.Recv
  feed r input out =
      elim (m.roomy r) [
        | false ↦ unchanged r out 2
        | true ↦ elim (m.shaped r) [
          | false ↦ unchanged r out 3
          | true ↦ elim (m.dead r) [
            | suc n ↦ unchanged r out (suc n)
            | zero ↦ elim (ltb (length out) m.longest) [
              | true ↦ unchanged r out 1
              | false ↦ wrote out (read r (length out) input)
            ]
          ]
        ]
      ]

  -- the owner's call: 3's plain numbers, dead, then the call itself, which the plain receiver answers so too
  unfoldable pub own : m.Recv → ℕ → Reply m.Recv
  own r id = elim (m.plain r) [ false ↦ record { next = r; number = 3 } | true ↦ m.call r id ]

-- ---- a session, and the uncut reading

pub data Call : Type 0 where
  feeds : List ℕ → List ℕ → Call
  owns : ℕ → Call

pub data Event : Type 0 where
  took : ℕ → Event
  asked : ℕ → Event

-- the receiver at the end, the joined records, the answers to the owner
pub record Outcome (R : Type 0) : Type 0 where
  pub end : R
  pub records : List ℕ
  pub answers : List ℕ

unfoldable pub fed : {R : Type 0} → List ℕ → Outcome R → Outcome R
fed new o = record { end = o.end; records = new ++ o.records; answers = o.answers }

unfoldable pub answered : {R : Type 0} → ℕ → Outcome R → Outcome R
answered n o = record { end = o.end; records = o.records; answers = n ∷ o.answers }

module _ (m : Machine) where
  -- the plain receiver
  unfoldable pub uncut : m.Recv → List Event → Outcome m.Recv
  uncut r [] = record { end = r; records = []; answers = [] }
  uncut r (took b ∷ es) = fed (m.byte r b).adds (uncut (m.byte r b).next es)
  uncut r (asked id ∷ es) = answered (m.call r id).number (uncut (m.call r id).next es)

  -- each call gets the receiver as last left
  unfoldable pub session : m.Recv → List Call → Outcome m.Recv
  session r [] = record { end = r; records = []; answers = [] }
  session r (feeds input out ∷ cs) = let f = feed m r input out in fed (take f.written f.output) (session f.next cs)
  session r (owns id ∷ cs) = let a = own m r id in answered a.number (session a.next cs)

  -- the bytes taken, with each call of the owner at its place among them
  unfoldable pub events : m.Recv → List Call → List Event
  events r [] = []
  events r (feeds input out ∷ cs) = let f = feed m r input out in map took (take f.taken input) ++ events f.next cs
  events r (owns id ∷ cs) = asked id ∷ events (own m r id).next cs
