-- Bytes that bring a receiver from one place between frames to another, with the records that they add. Such bytes follow one another.
-- Assumes nothing.
use mathlib.Core.Path.{◌≡◌, ap, ◌∙◌}
use mathlib.Core.Bool.{Bool}
use mathlib.Core.List.{List, ◌++◌, map, map-append, append_assoc}
use Prim.Native.Nat.{ℕ}
use lib.ListN.{length, take, drop}
use Rattle.frame.specs.Limits.{part_start}
use Rattle.requests.specs.declared.Slot.{Slot}
use Rattle.session.specs.Session.{Event, took, Outcome, fed, uncut}
use Rattle.channel.specs.declared.Channel.{Channel}
use Rattle.channel.specs.Receiver.{Receiver, lowest_free}
use Rattle.channel.specs.Channel.{channel}
use Rattle.sender.specs.declared.Wishes.{Wishes}
use Rattle.round_trip.proofs.WholeFrame.{Between}
use Rattle.round_trip.proofs.States.{state_with}

-- the receiver then has the start's state with a slot and the stream so, and these bytes in the slot's part
pub record ReadsTo (how : Wishes) (s : Channel) (r : Receiver) (message records : List ℕ) (x : Slot) (is_open : Bool) (bytes : List ℕ) : Type 0 where
  pub to : Receiver
  pub reads : (es : List Event) → uncut channel r (map took message ++ es) ≡ fed records (uncut channel to es)
  pub between : Between to
  pub state : to.state ≡ state_with how s x is_open
  pub part : take (length bytes) (drop (part_start (lowest_free s)) to.work) ≡ bytes

fed-fed : (a b : List ℕ) (o : Outcome Receiver) → fed a (fed b o) ≡ fed (a ++ b) o
unfolding fed
fed-fed a b o = rw (append_assoc a b o.records)

pub reads_then : (how : Wishes) (s : Channel) (r : Receiver) (m₁ m₂ a₁ a₂ : List ℕ) (x₁ x₂ : Slot) (o₁ o₂ : Bool) (b₁ b₂ : List ℕ)
    (c : ReadsTo how s r m₁ a₁ x₁ o₁ b₁) → ReadsTo how s c.to m₂ a₂ x₂ o₂ b₂ → ReadsTo how s r (m₁ ++ m₂) (a₁ ++ a₂) x₂ o₂ b₂
reads_then how s r m₁ m₂ a₁ a₂ x₁ x₂ o₁ o₂ b₁ b₂ c k = record {
  to = k.to;
  reads = λ es.
      ap (λ (l : List Event). uncut channel r (l ++ es)) (map-append took m₁ m₂)
      ∙ ap (uncut channel r) (append_assoc (map took m₁) (map took m₂) es)
      ∙ c.reads (map took m₂ ++ es)
      ∙ ap (fed a₁) (k.reads es)
      ∙ fed-fed a₁ a₂ (uncut channel k.to es);
  between = k.between;
  state = k.state;
  part = k.part;
}
