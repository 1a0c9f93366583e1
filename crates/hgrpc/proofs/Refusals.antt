-- A refused call leaves every lent byte, the state's too, since bytes are decoded only if they are an encoding. Assumes nothing.
use Prim.Native.Nat.{ℕ, zero, suc, ◌≤◌}
use mathlib.Core.Bool.{Bool, true, false, cond}
use mathlib.Core.List.{List}
use mathlib.Core.Option.{Option, some, none}
use mathlib.Core.Path.{◌≡◌, refl, sym, ap, ◌∙◌}
use borrow.Author.Tests.{le-leb, lt-ltb, le-ltb}
use lib.ListN.{length}
use Rattle.frame.specs.Limits.{work_area, longest_record}
use Rattle.requests.specs.Phases.{can_finish}
use Rattle.session.specs.Session.{Reply, unchanged}
use Rattle.session.proofs.Laws as laws
use Rattle.channel.specs.declared.Channel.{Channel}
use Rattle.channel.specs.Receiver.{Receiver, slot_of, with_finished, finish_state}
use Rattle.channel.specs.Channel as machine
use Rattle.channel.specs.Channel.{feed_of, finish_of, plain_shape}
use Rattle.layout.specs.State.{decode}
use Rattle.fields.specs.Laws.{AreBytes}
use Rattle.layout.proofs.StateLaws.{only}
use Rattle.hgrpc.specs.Calls.{kept, answer, fed_answer, replied, feed_answer, finish_answer}
use Rattle.hgrpc.specs.Laws.{FeedRefused, FinishRefused}
use Rattle.hgrpc.proofs.CallLaws.{feed-short}

module _ (b work input out : List ℕ) (h : AreBytes b) (s : Channel) (l : work_area ≤ length work) (e : decode b ≡ some s) where
  abbrev rec : Receiver
  rec = record { state = s; work = work }

  -- a feed that changes nothing leaves the state's bytes
  still : (n : ℕ) → feed_of s work input out ≡ unchanged machine.channel rec out n → feed_answer b work input out ≡ answer n 0 0 b work out
  unfolding feed_answer unchanged
  still n u = rw (le-ltb _ _ l, e) (ap fed_answer u ∙ ap (λ (x : List ℕ). answer n 0 0 x work out) (sym (only b s h e)))

  roomy : (machine.channel).roomy rec ≡ true
  roomy = le-leb work_area (length work) l

no_state : (b work input out : List ℕ) → work_area ≤ length work → decode b ≡ none → feed_answer b work input out ≡ answer 3 0 0 b work out
unfolding feed_answer
no_state b work input out l e = rw (le-ltb _ _ l, e)

pub feed-refused : FeedRefused
feed-refused b work input out h = record {
  small = λ l. sym (feed-short b work input out l);
  other = no_state b work input out;
  unshaped = λ s l e k. still b work input out h s l e 3 (laws.feed-unshaped machine.channel _ input out (roomy b work input out h s l e) k);
  dead = λ s n l e k d.
      still b work input out h s l e (suc n) (laws.feed-dead machine.channel _ input out (roomy b work input out h s l e) k (suc n) d (laws.not-zero n));
  short = λ s l e k d m.
      still b work input out h s l e 1 (laws.feed-short machine.channel _ input out (roomy b work input out h s l e) k d (lt-ltb (length out) longest_record m));
}

-- a finish that is not answered 0 leaves the state
module _ (s : Channel) (id n : ℕ) where
  abbrev same : ℕ → Reply Channel
  same m = record { next = s; number = m }

  -- finish's answer by the shape, the dead number and whether the id runs
  abbrev by-case : Bool → ℕ → Bool → Reply Channel
  by-case t d u =
      cond t
      (elim d as (λ _. Reply Channel) [
        | suc m ↦ same (suc m)
        | zero ↦ elim u as (λ _. Reply Channel) [ true ↦ record { next = with_finished s id; number = 0 } | false ↦ same 4 ]
      ])
      (same 3)

  still-case : (t : Bool) (d : ℕ) (u : Bool) → (by-case t d u).number ≡ suc n → by-case t d u ≡ same (suc n)
  still-case false d u e = ap same e
  still-case true (suc d) u e = ap same e
  still-case true zero false e = ap same e
  still-case true zero true e = absurd (laws.not-zero n (sym e))

  finish-still : (finish_of s id).number ≡ suc n → finish_of s id ≡ same (suc n)
  unfolding finish_state
  finish-still e = still-case (plain_shape s) s.dead (can_finish (slot_of s id).phase) e

pub finish-refused : FinishRefused
unfolding finish_answer
finish-refused b id n h = go (decode b) refl
  where
    go : (o : Option Channel) → decode b ≡ o → (finish_answer b id).number ≡ suc n → finish_answer b id ≡ kept (suc n) b
    go none e = rw e (λ k. ap (λ (m : ℕ). kept m b) k)
    go (some s) e = rw e (λ k. ap replied (finish-still s id n k) ∙ ap (kept (suc n)) (sym (only b s h e)))
