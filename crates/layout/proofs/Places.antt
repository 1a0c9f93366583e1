-- What the code reads and puts at each place, against the layout: a line for each field.
-- Assumes nothing.
use Prim.Native.Nat.{ℕ, zero, suc, ◌+◌, ◌*◌, ◌/◌, ◌<◌}
use mathlib.Core.Bool.{Bool, false, ◌&&◌}
use mathlib.Core.List.{List, [], ◌∷◌, ◌++◌}
use mathlib.Core.Path.{◌≡◌, refl, sym, ap, ◌∙◌}
use native.Mathlib.Nat.{add-zero, mod-eq_of_lt}
use native.Mathlib.Omega.{arith}
use lib.ListN.{length, take, drop, get_or, set, length-append, length-drop}
use lib.Seq.{get_or-drop}
use Rattle.frame.specs.Limits.{slot_count, stream_count}
use Rattle.requests.specs.declared.Phase.{Phase}
use Rattle.requests.specs.declared.Phase.TheVariants.{Free, Collecting, Waiting, Running, Draining}
use Rattle.requests.specs.declared.Slot.{Slot}
use Rattle.requests.specs.Phases.{code}
use Rattle.channel.specs.declared.Channel.{Channel}
use Rattle.buffer.specs.Bytes.{write}
use Rattle.buffer.proofs.WriteLaws.{set-write}
use Rattle.fields.specs.Fields.{Field, number, flag, both, many, get_all, good_all, put_all, row_from}
use Rattle.fields.proofs.Loops.{put_all-length}
use Rattle.fields.specs.Laws.{Local}
use Rattle.fields.proofs.Local.{number_local, flag_local, choice_local, both_local, standing_local}
use Rattle.fields.proofs.Places.{and-true, both-get, both-good, put-behind, byte-get, write-whole}
use Rattle.fields.proofs.Rows.{row-get, row-good}
use Rattle.layout.specs.State.{phase_of, slot, of_parts, channel, pending_at, slots_at, streams_at, active_at, state_length, encode}

-- ---- a phase

pub phase_decoded : (p : Phase) (n : ℕ) → code p ≡ n → p ≡ phase_of n
unfolding code phase_of
phase_decoded Free n e = ap phase_of e
phase_decoded Collecting n e = ap phase_of e
phase_decoded Waiting n e = ap phase_of e
phase_decoded Running n e = ap phase_of e
phase_decoded Draining n e = ap phase_of e

pub phase_past : (n : ℕ) → 4 < n → Free ≡ phase_of n
unfolding phase_of
phase_past zero h = absurd (omega arith)
phase_past (suc zero) h = absurd (omega arith)
phase_past (suc (suc zero)) h = absurd (omega arith)
phase_past (suc (suc (suc zero))) h = absurd (omega arith)
phase_past (suc (suc (suc (suc zero)))) h = absurd (omega arith)
phase_past (suc (suc (suc (suc (suc n))))) h = refl

pub code_small : (p : Phase) → code p < 5
unfolding code
code_small Free = omega arith
code_small Collecting = omega arith
code_small Waiting = omega arith
code_small Running = omega arith
code_small Draining = omega arith

-- ---- a slot

pub slot_local : Local slot
slot_local = search (number_local, choice_local, both_local, standing_local) depth 20

-- ---- a state: its parts behind one another

-- the fields from each part on
abbrev from_streams : Field (List Bool × ℕ)
from_streams = both (many flag stream_count) (number 1)

abbrev from_slots : Field (List Slot × (List Bool × ℕ))
from_slots = both (many slot slot_count) from_streams

abbrev from_pending : Field (ℕ × (List Slot × (List Bool × ℕ)))
from_pending = both (number 3) from_slots

module _ (b : List ℕ) where
  state-good : channel.good b ≡ (good_all slot slot_count (drop slots_at b) && good_all flag stream_count (drop streams_at b))
  state-good =
      both-good (number 1) from_pending b 0 pending_at refl
      ∙ both-good (number 3) from_slots b pending_at slots_at refl
      ∙ both-good (many slot slot_count) from_streams b slots_at streams_at refl
      ∙ ap (λ (x : Bool). good_all slot slot_count (drop slots_at b) && x) (both-good (many flag stream_count) (number 1) b streams_at active_at refl ∙ and-true (good_all flag stream_count (drop streams_at b)))

  -- as the code judges: the slots in their part of the bytes, and the streams in theirs
  pub state_judged : length b ≡ state_length → (x y : Bool) → x ≡ good_all slot (length (take 48 (drop slots_at b)) / 6) (take 48 (drop slots_at b))
      → y ≡ good_all flag (length (take 128 (drop streams_at b)) / 1) (take 128 (drop streams_at b)) → (x && y) ≡ channel.good b
  state_judged h x y e g =
      let slots : x ≡ good_all slot 8 (drop slots_at b) = e ∙ row-good slot_local (omega arith) 8 (drop slots_at b) (omega (arith, length-drop slots_at b)) in
      let streams : y ≡ good_all flag 128 (drop streams_at b) = g ∙ row-good flag_local (omega arith) 128 (drop streams_at b) (omega (arith, length-drop streams_at b)) in
      rw (slots, streams) (sym state-good)

  state-get : channel.get b
      ≡ record { dead = get_or b 0 0; pending = (number 3).get (drop pending_at b); slots = get_all slot slot_count (drop slots_at b); streams = get_all flag stream_count (drop streams_at b); active = get_or b active_at 0 }
  state-get =
      let d : ℕ = (number 1).get b in
      let p : ℕ = (number 3).get (drop pending_at b) in
      let slots : List Slot = get_all slot slot_count (drop slots_at b) in
      let streams : List Bool = get_all flag stream_count (drop streams_at b) in
      ap of_parts (both-get (number 1) from_pending b 0 pending_at refl)
      ∙ ap (λ t. of_parts (d, t)) (both-get (number 3) from_slots b pending_at slots_at refl)
      ∙ ap (λ t. of_parts (d, (p, t))) (both-get (many slot slot_count) from_streams b slots_at streams_at refl)
      ∙ ap (λ t. of_parts (d, (p, (slots, t)))) (both-get (many flag stream_count) (number 1) b streams_at active_at refl)
      ∙ ap (λ n. of_parts (n, (p, (slots, (streams, (number 1).get (drop active_at b)))))) (add-zero (get_or b 0 0))
      ∙ ap (λ n. of_parts (get_or b 0 0, (p, (slots, (streams, n))))) (add-zero (get_or (drop active_at b) 0 0) ∙ byte-get b active_at)

  -- as the code reads
  pub state_made : (d : Slot) (n : ℕ) (slots : List Slot) (streams : List Bool) → length b ≡ state_length → n ≡ get_or b 1 0 + get_or b 2 0 * 256 + get_or b 3 0 * 65536 + 0
      → slots ≡ row_from slot d 8 (take 48 (drop slots_at b)) → streams ≡ row_from flag false 128 (take 128 (drop streams_at b))
      → ◌≡◌ {A = Channel} (record { dead = get_or b 0 0; pending = n; slots = slots; streams = streams; active = get_or b active_at 0 }) (channel.get b)
  state_made d n slots streams h e f g =
      let p : n ≡ (number 3).get (drop pending_at b) = omega (arith, get_or-drop 1 b 0 0, get_or-drop 1 b 1 0, get_or-drop 1 b 2 0) in
      let q : slots ≡ get_all slot 8 (drop slots_at b) = f ∙ row-get slot_local (omega arith) 8 (drop slots_at b) (omega (arith, length-drop slots_at b)) d in
      let r : streams ≡ get_all flag 128 (drop streams_at b) = g ∙ row-get flag_local (omega arith) 128 (drop streams_at b) (omega (arith, length-drop streams_at b)) false in
      rw (p, q, r) (sym state-get)

-- in the steps of the code
pub state-put : (b c d e g : List ℕ) (s : Channel) → c ≡ write (set b 0 s.dead) pending_at ((number 3).put s.pending)
    → d ≡ write c slots_at (put_all slot s.slots) → e ≡ write d streams_at (put_all flag s.streams) → g ≡ set e active_at s.active
    → length b ≡ state_length → s.dead < 256 → length s.slots ≡ slot_count → length s.streams ≡ stream_count → s.active < 256 → g ≡ encode s
unfolding encode
state-put b c d e g s c-is d-is e-is g-is size dead-small slot-count stream-count active-small =
    let dead : s.dead ∷ [] ≡ (number 1).put s.dead = ap (λ (x : ℕ). x ∷ []) (sym (mod-eq_of_lt dead-small)) in
    let active : s.active ∷ [] ≡ (number 1).put s.active = ap (λ (x : ℕ). x ∷ []) (sym (mod-eq_of_lt active-small)) in
    let p : List ℕ = (number 3).put s.pending in
    let slots : List ℕ = put_all slot s.slots in
    let streams : List ℕ = put_all flag s.streams in
    let n : List ℕ = s.active ∷ [] in
    let x : length slots ≡ 6 * length s.slots = put_all-length slot s.slots (λ x. refl) in
    let y : length streams ≡ 1 * length s.streams = put_all-length flag s.streams (λ x. refl) in
    let z : length (p ++ (slots ++ (streams ++ n))) ≡ 180 = omega (arith, length-append p (slots ++ (streams ++ n)), length-append slots (streams ++ n), length-append streams n) in
    g-is
    ∙ set-write e active_at s.active
    ∙ ap (λ (w : List ℕ). write w active_at n) e-is
    ∙ put-behind d streams_at active_at streams n (omega arith)
    ∙ ap (λ (w : List ℕ). write w streams_at (streams ++ n)) d-is
    ∙ put-behind c slots_at streams_at slots (streams ++ n) (omega arith)
    ∙ ap (λ (w : List ℕ). write w slots_at (slots ++ (streams ++ n))) c-is
    ∙ put-behind (set b 0 s.dead) pending_at slots_at p (slots ++ (streams ++ n)) refl
    ∙ ap (λ (w : List ℕ). write w pending_at (p ++ (slots ++ (streams ++ n)))) (set-write b 0 s.dead)
    ∙ put-behind b 0 pending_at (s.dead ∷ []) (p ++ (slots ++ (streams ++ n))) refl
    ∙ write-whole b ((s.dead ∷ []) ++ (p ++ (slots ++ (streams ++ n)))) (omega arith)
    ∙ ap (λ (h : List ℕ). h ++ (p ++ (slots ++ (streams ++ n)))) dead
    ∙ ap (λ (t : List ℕ). (number 1).put s.dead ++ (p ++ (slots ++ (streams ++ t)))) active
