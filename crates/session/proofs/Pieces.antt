-- Reading an input in two pieces: a piece that is read to its end hands over to the rest, and a piece that ends the call does so whatever
-- follows it. With this, what is taken of a piece, and the two readings of a single byte that a loop over bytes needs.
-- Assumes nothing.
use Prim.Native.Nat.{ℕ, zero, suc, ◌-◌, ◌≤◌}
use mathlib.Core.Path.{◌≡◌, refl, sym, ap, ◌∙◌}
use mathlib.Core.Bool.{false, ◌&&◌}
use mathlib.Core.List.{List, [], ◌∷◌, ◌++◌, append_assoc, append-nil}
use native.Mathlib.Nat.{zero-add, suc-add, sub-zero}
use native.Mathlib.Omega.{arith}
use lib.ListN.{length, length-append}
use lib.Dec.{ltb}
use Rattle.session.specs.Session.{Machine, Step, Reading, Feed, after, read, unchanged, wrote, feed}
use Rattle.session.proofs.Laws.{not-zero, behind, read_short, read-refused, read_more, read-case, Fed, still, reads, feed_cases}

after-behind : {R : Type 0} (new recs : List ℕ) (n : ℕ) (g : Reading R) → after new (behind n recs g) ≡ behind (suc n) (new ++ recs) g
unfolding after
after-behind new recs n g = rw (suc-add, append_assoc)

after_none : {R : Type 0} (g : Reading R) → after [] g ≡ behind 1 [] g
unfolding after
after_none g = rw (suc-add, zero-add)

room-left : (room : ℕ) (a b : List ℕ) → room - length a - length b ≡ room - length (a ++ b)
room-left room a b = rw (length-append a b) (omega arith)

module _ (m : Machine) where
  -- ---- an input in two pieces

  -- a piece that is read to its end: the rest is read on from there
  pub read-on : (r : m.Recv) (room : ℕ) (xs ys : List ℕ) → (read m r room xs).number ≡ 0
      → read m r room (xs ++ ys) ≡ behind (read m r room xs).taken (read m r room xs).records (read m (read m r room xs).next (room - length (read m r room xs).records) ys)
  unfolding read after
  read-on r room xs ys =
      read-case m (λ r room xs g. g.number ≡ 0 → read m r room (xs ++ ys) ≡ behind g.taken g.records (read m g.next (room - length g.records) ys))
      (λ r room z. rw (sub-zero, zero-add))
      (λ r room b bs e z. absurd (not-zero 4 z))
      (λ r room b bs n e d z. absurd (not-zero n z))
      (λ r room b bs g e d ih z.
      read_more m r room b (bs ++ ys) e d
      ∙ ap (after (m.byte r b).adds) (ih z)
      ∙ after-behind (m.byte r b).adds g.records g.taken (read m g.next (room - length (m.byte r b).adds - length g.records) ys)
      ∙ ap (λ (k : ℕ). behind (suc g.taken) ((m.byte r b).adds ++ g.records) (read m g.next k ys)) (room-left room (m.byte r b).adds g.records))
      r room xs

  -- a piece that ends the call: the rest is not looked at
  pub read_stops : (r : m.Recv) (room : ℕ) (xs ys : List ℕ) → ((read m r room xs).number ≡ 0 → ⊥) → read m r room (xs ++ ys) ≡ read m r room xs
  unfolding after
  read_stops r room xs ys =
      read-case m (λ r room xs g. (g.number ≡ 0 → ⊥) → read m r room (xs ++ ys) ≡ g)
      (λ r room h. absurd (h refl))
      (λ r room b bs e h. read_short m r room b (bs ++ ys) e)
      (λ r room b bs n e d h. read-refused m r room b (bs ++ ys) n e d)
      (λ r room b bs g e d ih h. read_more m r room b (bs ++ ys) e d ∙ ap (after (m.byte r b).adds) (ih h))
      r room xs

  -- a piece that is read to its end is taken whole
  pub read_all : (r : m.Recv) (room : ℕ) (xs : List ℕ) → (read m r room xs).number ≡ 0 → (read m r room xs).taken ≡ length xs
  unfolding after
  read_all =
      read-case m (λ r room xs g. g.number ≡ 0 → g.taken ≡ length xs)
      (λ r room z. refl)
      (λ r room b bs e z. absurd (not-zero 4 z))
      (λ r room b bs n e d z. absurd (not-zero n z))
      (λ r room b bs g e d ih z. ap suc (ih z))

  -- never more is taken than there is
  pub read-within : (r : m.Recv) (room : ℕ) (xs : List ℕ) → (read m r room xs).taken ≤ length xs
  unfolding after
  read-within =
      read-case m (λ r room xs g. g.taken ≤ length xs)
      (λ r room. omega arith)
      (λ r room b bs e. omega arith)
      (λ r room b bs n e d. omega arith)
      (λ r room b bs g e d ih. omega arith)

  pub feed-within : (r : m.Recv) (input out : List ℕ) {f : Feed m.Recv} → f ≡ feed m r input out → f.taken ≤ length input
  unfolding unchanged wrote
  feed-within r input out e = rw e (either (feed_cases m r input out))
    where
      either : {f : Feed m.Recv} → Fed m r input out f → f.taken ≤ length input
      either (still n) = omega arith
      either reads = read-within r (length out) input

  -- a receiver that was live before a reading to the end is live after it
  pub read_live : (r : m.Recv) (room : ℕ) (xs : List ℕ) → m.dead r ≡ 0 → (read m r room xs).number ≡ 0 → m.dead (read m r room xs).next ≡ 0
  unfolding after
  read_live =
      read-case m (λ r room xs g. m.dead r ≡ 0 → g.number ≡ 0 → m.dead g.next ≡ 0)
      (λ r room l z. l)
      (λ r room b bs e l z. absurd (not-zero 4 z))
      (λ r room b bs n e d l z. absurd (not-zero n z))
      (λ r room b bs g e d ih l z. ih d z)

  -- ---- a single byte

  -- one byte that 5 does not stop before
  pub read_one : (r : m.Recv) (room b : ℕ) → (m.closes r b && ltb room m.longest) ≡ false
      → read m r room (b ∷ []) ≡ record { number = m.dead (m.byte r b).next; taken = 1; next = (m.byte r b).next; records = (m.byte r b).adds }
  unfolding read after
  read_one r room b e = go (m.dead (m.byte r b).next) refl
    where
      s : Step m.Recv
      s = m.byte r b

      one : ℕ → List ℕ → Reading m.Recv
      one n recs = record { number = n; taken = 1; next = s.next; records = recs }

      go : (d : ℕ) → m.dead s.next ≡ d → read m r room (b ∷ []) ≡ one (m.dead s.next) s.adds
      go zero d = read_more m r room b [] e d ∙ ap (one 0) (append-nil s.adds) ∙ ap (λ (n : ℕ). one n s.adds) (sym d)
      go (suc n) d = read-refused m r room b [] n e d ∙ ap (λ (k : ℕ). one k s.adds) (sym d)

  -- a byte that does not close its frame, leaves the receiver live and adds nothing: the reading goes on behind it
  pub read-quiet : (r : m.Recv) (room b : ℕ) (bs : List ℕ) → m.closes r b ≡ false → m.dead (m.byte r b).next ≡ 0 → (m.byte r b).adds ≡ []
      → read m r room (b ∷ bs) ≡ behind 1 [] (read m (m.byte r b).next room bs)
  read-quiet r room b bs c d a = read_more m r room b bs goes d ∙ ap rests a ∙ ap lefts (sub-zero room) ∙ after_none (read m (m.byte r b).next room bs)
    where
      goes : (m.closes r b && ltb room m.longest) ≡ false
      goes = rw c

      rests : List ℕ → Reading m.Recv
      rests l = after l (read m (m.byte r b).next (room - length l) bs)

      lefts : ℕ → Reading m.Recv
      lefts k = after [] (read m (m.byte r b).next k bs)
