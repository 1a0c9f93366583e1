-- Demand 3 over any receiver: of a whole list of calls, its outcome and what each call answers and leaves. Assumes nothing.
use Prim.Native.Nat.{ℕ, zero, suc, ◌≤◌, ◌<◌}
use mathlib.Core.Path.{◌≡◌, refl, sym, ap, ◌∙◌}
use mathlib.Core.Bool.{false, ◌&&◌, and-false}
use mathlib.Core.List.{List, [], ◌∷◌}
use native.Mathlib.Omega.{arith}
use lib.ListN.{length, take, length-append, length-drop}
use lib.Seq.{take-append_seam, drop-append_seam}
use lib.Dec.{ltb}
use borrow.Author.Tests.{lt-ltb, le-ltb}
use Rattle.session.specs.Session.{Machine, Reading, Outcome, Call, feeds, owns, after, read, wrote, feed, session}
use Rattle.session.specs.Counts.{receiver_after, records_of}
use Rattle.session.specs.Demand3.{Reads, FeedAnswers, Answers, Keeps, Demand3}
use Rattle.session.proofs.Laws.{not-zero, read-refused, read_more, read_fits, feed-dead, feed-short, feed-reads, own_is, session-uncut, session-keeps}
use Rattle.session.proofs.Counts.{read-counted, read_plain}

module _ (m : Machine) where
  -- with room for a record and some input, a byte is taken
  takes_one : (r : m.Recv) (room : ℕ) (input : List ℕ) → m.longest ≤ room → 0 < length input → 0 < (read m r room input).taken
  unfolding after
  takes_one r room [] l h = absurd (omega arith)
  takes_one r room (b ∷ bs) l h = more (m.dead (m.byte r b).next) refl
    where
      goes : (m.closes r b && ltb room m.longest) ≡ false
      goes = rw (le-ltb room m.longest l) (and-false (m.closes r b))

      more : (n : ℕ) → m.dead (m.byte r b).next ≡ n → 0 < (read m r room (b ∷ bs)).taken
      more zero e = rw (read_more m r room b bs goes e) (omega arith)
      more (suc n) e = rw (read-refused m r room b bs n goes e) (omega arith)

  module _ (k : Keeps m) where
    -- a feed that passes the checks
    reading : (r : m.Recv) (input out : List ℕ) → k.Ok r → m.longest ≤ length out → Reads m r input out (wrote m out (read m r (length out) input))
    unfolding wrote receiver_after records_of
    reading r input out h l =
        let g : Reading m.Recv = read m r (length out) input in
        let plain = read_plain m r (length out) input in
        let recs : g.records ≡ records_of m r (take g.taken input) = sym (ap (λ (o : Outcome m.Recv). o.records) plain) in
        let fits : length g.records ≤ length out = read_fits m k r (length out) input h in
        record {
          counted = read-counted m r (length out) input;
          next = sym (ap (λ (o : Outcome m.Recv). o.end) plain);
          written = ap length recs;
          records = take-append_seam g.records _ ∙ recs;
          rest = drop-append_seam g.records _;
          size = simp (length-append, length-drop) (omega arith);
          progress = takes_one r (length out) input l;
        }

    feed-answers : (r : m.Recv) (input out : List ℕ) → k.Ok r → FeedAnswers m r input out (feed m r input out)
    feed-answers r input out h =
        let a = k.roomy r h in
        let b = k.shaped r h in
        record {
          dead = λ n d. feed-dead m r input out a b (suc n) d (not-zero n);
          short = λ d l. feed-short m r input out a b d (lt-ltb (length out) m.longest l);
          reads = λ d l. rw (feed-reads m r input out a b d (le-ltb (length out) m.longest l)) (reading r input out h l);
        }

    answers : (r : m.Recv) (c : Call) → k.Ok r → Answers m r c
    unfolding Answers
    answers r (feeds input out) h = feed-answers r input out h
    answers r (owns id) h = own_is m k r id h

pub demand3 : Demand3
demand3 m k r h cs = record {
  outcome = session-uncut m k r h cs;
  calls = λ before c after e. answers m k (session m r before).end c (session-keeps m k r h before);
}
