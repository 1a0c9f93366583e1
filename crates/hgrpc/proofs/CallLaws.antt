-- The answers of the calls for C, case by case.
-- Assumes nothing.
use Prim.Native.Nat.{ℕ, ◌<◌, ◌≤◌}
use mathlib.Core.Bool.{Bool, true, false}
use Rattle.std.specs.Prelude as answers
use Rattle.std.specs.Prelude.{Some, None, Result, Ok, Err}
use Rattle.std.proofs.Math.Option.{some, none}
use Rattle.fields.specs.Fields.{read}
use mathlib.Core.List.{List}
use mathlib.Core.Path.{◌≡◌, refl, sym, ap, ◌∙◌}
use lib.ListN.{length}
use borrow.Author.Tests.{lt-ltb, le-ltb, eq-eqb, ne_eqb}
use Rattle.frame.specs.Limits.{work_area}
use Rattle.channel.specs.declared.Channel.{Channel}
use Rattle.channel.specs.declared.Fed.{Fed}
use Rattle.channel.specs.declared.Refusal.{Refusal}
use Rattle.channel.specs.Receiver.{fresh_state}
use Rattle.channel.specs.Channel.{feed_of, finish_of, fed_with, finished}
use Rattle.session.specs.Session.{Reply}
use Rattle.layout.specs.State.{state_length, encode, decode, is_state, state_into}
use Rattle.layout.proofs.StateLaws.{state-length, state-none, state-put}
use Rattle.status.specs.Row.{ActiveCount, active_count, active_of, shown, shown_in_bytes}
use Rattle.hgrpc.specs.Calls.{kept, answer, fed_answer, fresh_answer, finish_answer, feed_answer, active_answer, row_answer}

module _ (b : List ℕ) where
  pub fresh-other : (length b ≡ state_length → ⊥) → kept 3 b ≡ fresh_answer b
  unfolding fresh_answer
  fresh-other h = rw (ne_eqb _ _ h)

  pub fresh-done : length b ≡ state_length → (s : Channel) (b' : List ℕ) → s ≡ fresh_state → b' ≡ state_into b s → kept 0 b' ≡ fresh_answer b
  unfolding fresh_answer
  fresh-done h s b' e f = rw (eq-eqb _ _ h, state-put b b' s h f, e)

  -- what was read of the bytes
  pub opened : (o : answers.Option Channel) (s : Channel) → o ≡ Some s → read o ≡ decode b → decode b ≡ some s
  unfolding read
  opened o s e f = sym f ∙ rw e

  pub closed : (o : answers.Option Channel) → o ≡ None → read o ≡ decode b → decode b ≡ none
  unfolding read
  closed o e f = sym f ∙ rw e

  long : (s : Channel) → decode b ≡ some s → length b ≡ state_length
  long s e = state-length b (go (is_state b) refl)
    where
      go : (t : Bool) → is_state b ≡ t → t ≡ true
      go true q = refl
      go false q = let h : none ≡ some s = sym (state-none b q) ∙ e in absurd (cc)

  module _ (id : ℕ) where
    pub finish-none : decode b ≡ none → kept 3 b ≡ finish_answer b id
    unfolding finish_answer
    finish-none e = rw e

    pub finish-done : (s : Channel) → decode b ≡ some s → (r : Result Channel Refusal) (a : Reply Channel) (b' : List ℕ) → finished s r ≡ finish_of s id → finished s r ≡ a → b' ≡ state_into b a.next
        → kept a.number b' ≡ finish_answer b id
    unfolding finish_answer
    finish-done s e r a b' g q h = rw (e, ← g, q, state-put b b' a.next (long s e) h)

    -- a refused one leaves the state, and its bytes
    pub finish-kept : (s : Channel) → decode b ≡ some s → b ≡ encode s → (r : Result Channel Refusal) (a : Reply Channel) → finished s r ≡ finish_of s id → finished s r ≡ a → a.next ≡ s
        → kept a.number b ≡ finish_answer b id
    unfolding finish_answer
    finish-kept s e k r a g q n = rw (e, ← g, q, n) (ap (kept a.number) k)

  pub active-none : decode b ≡ none → active_count 3 0 ≡ active_answer b
  unfolding active_answer
  active-none e = rw e

  pub active-done : (s : Channel) → decode b ≡ some s → (a : ActiveCount) → a ≡ active_of s → a ≡ active_answer b
  unfolding active_answer
  active-done s e a g = rw e g

  module _ (row : List ℕ) where
    pub row-none : decode b ≡ none → shown 3 row ≡ row_answer b row
    unfolding row_answer
    row-none e = rw e

    pub row_done : (s : Channel) → decode b ≡ some s → (n : ℕ) (row' : List ℕ) → shown n row' ≡ shown_in_bytes s row → shown n row' ≡ row_answer b row
    unfolding row_answer
    row_done s e n row' g = rw e g

  module _ (work input out : List ℕ) where
    pub feed-short : length work < work_area → answer 2 0 0 b work out ≡ feed_answer b work input out
    unfolding feed_answer
    feed-short h = rw (lt-ltb _ _ h)

    pub feed-none : work_area ≤ length work → decode b ≡ none → answer 3 0 0 b work out ≡ feed_answer b work input out
    unfolding feed_answer
    feed-none h e = rw (le-ltb _ _ h, e)

    pub feed-done : work_area ≤ length work → (s : Channel) → decode b ≡ some s → (a : Fed) (b' work' out' : List ℕ)
        → fed_with a work' out' ≡ feed_of s work input out → b' ≡ state_into b a.channel
        → answer a.number a.taken a.written b' work' out' ≡ feed_answer b work input out
    unfolding feed_answer
    feed-done h s e a b' work' out' g k =
        rw (le-ltb _ _ h, e)
        (ap (λ (x : List ℕ). answer a.number a.taken a.written x work' out') (state-put b b' a.channel (long s e) k) ∙ ap fed_answer g)
