-- `feed::take_byte` meets its contract: each of its four ends is the part that `byte_of` says.
-- Assumes nothing.
use Prim.Native.Nat.{ℕ, ◌-◌, ◌≤◌, ◌<◌}
use mathlib.Core.Path.{◌≡◌, sym, ◌∙◌}
use mathlib.Core.List.{List}
use lib.ListN.{set}
use borrow.Author.Rules.{rules}
use borrow.Author.Tests.{eq-eqb, ne_eqb, lt-ltb, le-ltb}
use Rattle.frame.specs.Limits.{max_payload, longest_record}
use Rattle.frame.specs.Header.{length_of}
use Rattle.channel.specs.Steps.{part, byte_of}
use Rattle.channel.proofs.feed.take_byte.Statement.{statement}
use Rattle.channel.proofs.feed.take_byte.Tie as tie

module _ (n : ℕ) (w : List ℕ) (b room size : ℕ) (length-is : size ≡ length_of w) where
  short : n - 7 ≡ size → room < longest_record → part 5 0 n w ≡ byte_of n w b room
  unfolding byte_of
  short e l = rw (eq-eqb (n - 7) (length_of w) (e ∙ length-is), lt-ltb room longest_record l, byte_of)

  whole : n - 7 ≡ size → longest_record ≤ room → part 1 1 0 (set w n b) ≡ byte_of n w b room
  unfolding byte_of
  whole e l = rw (eq-eqb (n - 7) (length_of w) (e ∙ length-is), le-ltb room longest_record l, byte_of)

  long : (n - 7 ≡ size → ⊥) → max_payload < size → part 11 1 0 (set w n b) ≡ byte_of n w b room
  unfolding byte_of
  long e l = rw (ne_eqb (n - 7) (length_of w) (λ k. e (k ∙ sym length-is)), lt-ltb max_payload (length_of w) (rw length-is at l), byte_of)

  goes_on : (n - 7 ≡ size → ⊥) → size ≤ max_payload → part 0 1 8 (set w n b) ≡ byte_of n w b room
  unfolding byte_of
  goes_on e l = rw (ne_eqb (n - 7) (length_of w) (λ k. e (k ∙ sym length-is)), le-ltb max_payload (length_of w) (rw length-is at l), byte_of)

returns : tie.Need-returns-then-room-lt-LONGEST_RECORD
returns c = let p = c.before.before in short _ _ _ _ _ p.payload_length-size.ensures c.if-pending-size.true c.if-room-lt-LONGEST_RECORD.true

returns-2 : tie.Need-returns-then-pending-size
returns-2 c = let p = c.before.before in whole _ _ _ _ _ p.payload_length-size.ensures c.if-pending-size.true c.if-room-lt-LONGEST_RECORD.false

returns-3 : tie.Need-returns-then-size-gt-MAX_PAYLOAD
returns-3 c = let p = c.before.before in long _ _ _ _ _ p.payload_length-size.ensures c.if-pending-size.false c.if-size-gt-MAX_PAYLOAD.true

returns-4 : tie.Need-returns
returns-4 c = let p = c.before.before in goes_on _ _ _ _ _ p.payload_length-size.ensures c.if-pending-size.false c.if-size-gt-MAX_PAYLOAD.false

pub take_byte_spec : {M : Type 1} → statement M
take_byte_spec =
    tie.close
    (tie.spec
    (λ c κs. search rules)
    (λ c. search rules)
    (λ c. search rules)
    returns
    (λ c. search rules)
    (λ c. search rules)
    returns-2
    (λ c. search rules)
    (λ c. search rules)
    returns-3
    (λ c. search rules)
    returns-4)
