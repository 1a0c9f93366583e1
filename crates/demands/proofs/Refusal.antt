-- What a refusal leaves: a byte that refuses its frame leaves the slots and the streams, and adds no record; the work area has the byte,
-- and with 24, 25 or 26 the payload too, put behind what its slot's part holds. Assumes nothing.
use Prim.Native.Nat.{ℕ, suc, ◌+◌}
use native.Mathlib.Nat.{add-zero}
use mathlib.Core.Path.{◌≡◌, refl, sym, ◌∙◌}
use mathlib.Core.Bool.{true, false}
use mathlib.Core.List.{List, []}
use Rattle.buffer.specs.Bytes.{write}
use Rattle.frame.specs.Limits.{part_start}
use Rattle.frame.specs.Frame.{Frame, frame_of, is_new}
use Rattle.session.specs.Session.{Step}
use Rattle.requests.specs.Slots.{slots_fit}
use Rattle.channel.specs.declared.Channel.{Channel}
use Rattle.channel.specs.Receiver.{Receiver, slot_at, place_of, slot_of, lowest_free, target, placed, refused, refused_work, accepted, put, take_byte}
use Rattle.demands.specs.Demands.{Refused, AfterRefusal}
use Rattle.channel.proofs.SlotLaws.{each_fits}
use Rattle.channel.proofs.ReceiverLaws.{live-case}
use Rattle.channel.proofs.JudgeLaws.{is-left, is-placed}
use Rattle.demands.proofs.Demand3.{ok}
use Rattle.demands.proofs.SeenLaws.{free_empty, lowest_is-free}

module _ (s : Channel) (f : Frame) (w : List ℕ) where
  -- a free slot holds nothing
  placed_first : slots_fit s.slots ≡ true → is_new f ≡ true → placed s f w ≡ write w (part_start (lowest_free s)) f.payload
  unfolding placed target slot_at
  placed_first fit e = rw (e, free_empty (slot_at s (lowest_free s)) (each_fits s.slots (lowest_free s) fit) (lowest_is-free s), add-zero)

  placed-further : is_new f ≡ false → placed s f w ≡ write w (part_start (place_of s f.request) + (slot_of s f.request).length) f.payload
  unfolding placed target
  placed-further e = rw e

module _ (r : Receiver) (b n : ℕ) (fit : slots_fit r.state.slots ≡ true) (d : r.state.dead ≡ 0) (o : n ≡ 0 → ⊥) where
  abbrev p : Receiver
  p = put r b

  abbrev s : Channel
  s = p.state

  abbrev w : List ℕ
  w = p.work

  abbrev f : Frame
  f = frame_of w

  -- what is claimed of the byte, where it refuses the frame with the number
  abbrev Left : Step Receiver → Type 0
  Left t = t.next.state.dead ≡ n → Refused r b n t.next × (t.adds ≡ [])

  refusal : Refused r b n (refused n s (refused_work n s f w)).next
  unfolding refused put slot_at place_of lowest_free
  refusal = record {
    slots = refl;
    active = refl;
    streams = refl;
    pending = refl;
    work = is-left s f w n;
    first = λ x y e. is-placed s f w n x y ∙ placed_first s f w fit e;
    further = λ x y e. is-placed s f w n x y ∙ placed-further s f w e;
  }

  refuses : (m : ℕ) → Left (refused m s (refused_work m s f w))
  unfolding refused
  refuses m e = rw e (refusal, refl)

  taken : Left (take_byte r b)
  unfolding accepted put refused_work
  taken =
      live-case r b Left d (refuses 11)
      (λ a h q. absurd (o (sym q ∙ d)))
      (λ a h e q. absurd (o (sym q ∙ d)))
      (λ n a h e. refuses (suc n))

pub after-refusal : AfterRefusal
after-refusal r k d b n e o = taken r b n (ok r k).slots d o e
