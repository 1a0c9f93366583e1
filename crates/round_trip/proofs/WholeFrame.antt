-- A frame that is read between frames: its bytes are put at the front of the work area one by one, and the last of them, and no other, has
-- it judged. The slots and the streams are those from before the frame. Assumes nothing.
use Prim.Native.Nat.{ℕ, ◌+◌, ◌-◌, ◌≤◌}
use mathlib.Core.Path.{◌≡◌, refl, sym, ap, ◌∙◌}
use mathlib.Core.List.{List, [], ◌∷◌, ◌++◌, map}
use native.Mathlib.Omega.{arith}
use lib.ListN.{length, drop, length-append, length-drop}
use lib.Seq.{drop-append-add, drop-drop}
use Rattle.frame.specs.Limits.{max_payload, frame_area, work_area, part_start}
use Rattle.frame.specs.Header.{length_of}
use Rattle.frame.specs.Frame.{Frame, header_for, frame_bytes}
use Rattle.frame.specs.Laws.{HeaderFits}
use Rattle.frame.proofs.FrameBack.{frame-length, length_back, frame_back}
use Rattle.buffer.proofs.WriteLaws.{length-write}
use Rattle.session.specs.Session.{Event, took, Step, Outcome, fed, uncut}
use Rattle.rules.specs.Rules.{is_command, rules, first_broken, record_with}
use Rattle.rules.proofs.Bools.{by_cond}
use Rattle.channel.specs.Receiver.{Receiver, slot_at, place_of, lowest_free, target, command_length, command, placed, stream_open, view_of, refused, refused_work, command_slot, slots_after, streams_after, accepted, judge, put}
use Rattle.channel.specs.Channel.{channel}
use Rattle.channel.proofs.FrameLaws.{filled, judged-at, whole-frame}

-- a judgement looks at the slots and the streams, and these stay
judge-put : (r : Receiver) (b : ℕ) (f : Frame) (w : List ℕ) → judge (put r b).state f w ≡ judge r.state f w
unfolding put judge view_of accepted refused refused_work slots_after streams_after command_slot command_length command placed target slot_at place_of lowest_free stream_open
judge-put r b f w = refl

judge-filled : (bs : List ℕ) (r : Receiver) (f : Frame) (w : List ℕ) → judge (filled r bs).state f w ≡ judge r.state f w
unfolding filled
judge-filled [] r f w = refl
judge-filled (b ∷ bs) r f w = judge-filled bs (put r b) f w ∙ judge-put r b f w

-- a step, and what is read after it
abbrev then_read : Step Receiver → List Event → Outcome Receiver
then_read t es = fed t.adds (uncut channel t.next es)

-- ---- a frame between frames

-- a live receiver between frames, whose work area is long enough
pub record Between (r : Receiver) : Type 0 where
  pub live : r.state.dead ≡ 0
  pub pending : r.state.pending ≡ 0
  pub work : work_area ≤ length r.work

-- a frame whose numbers fit and that is not too long
pub record FrameFits (f : Frame) : Type 0 where
  pub fits : HeaderFits (header_for f)
  pub short : length f.payload ≤ max_payload

-- the work area with a frame at its front
abbrev pub area_with : Receiver → Frame → List ℕ
area_with r f = frame_bytes f ++ drop (length (frame_bytes f)) r.work

-- the receiver after a frame that is accepted
abbrev pub next_of : Receiver → Frame → Receiver
next_of r f = (accepted r.state f (area_with r f)).next

module _ (r : Receiver) (f : Frame) (b : Between r) (h : FrameFits f) where
  size : length (frame_bytes f) ≤ frame_area
  size = omega (arith, frame-length f, h.short)

  -- it is judged, with its own bytes in the work area, in the state from before it
  pub frame-read : (es : List Event) → uncut channel r (map took (frame_bytes f) ++ es) ≡ then_read (judge r.state f (area_with r f)) es
  unfolding judged-at
  frame-read es =
      let rest : List ℕ = drop (length (frame_bytes f)) r.work in
      let long : length_of (area_with r f) ≡ length f.payload = length_back f rest h.fits in
      let (at_front, reads) =
      whole-frame r (frame_bytes f) es b.live b.pending (omega (arith, size, b.work)) (omega (arith, frame-length f)) (omega (arith, frame-length f, long))
      (omega (arith, long, h.short)) in
      let here : judged-at (filled r (frame_bytes f)) ≡ judge r.state f (area_with r f) =
      rw (at_front, frame_back f rest h.fits) (judge-filled (frame_bytes f) r f (area_with r f)) in
      reads ∙ ap (λ (t : Step Receiver). then_read t es) here

  -- the slots' parts are behind it
  pub same-part : (i : ℕ) → drop (part_start i) (area_with r f) ≡ drop (part_start i) r.work
  same-part i =
      let n : ℕ = length (frame_bytes f) in
      let e : n + (part_start i - n) ≡ part_start i = omega (arith, size) in
      ap (λ (k : ℕ). drop k (area_with r f)) (sym e)
      ∙ drop-append-add (frame_bytes f) (drop n r.work) (part_start i - n)
      ∙ drop-drop (part_start i - n) n r.work
      ∙ ap (λ (k : ℕ). drop k r.work) e

  pub area-wide : work_area ≤ length (area_with r f)
  area-wide = omega (arith, length-append (frame_bytes f) (drop (length (frame_bytes f)) r.work), length-drop (length (frame_bytes f)) r.work, size, b.work)

  -- a frame that breaks no rule is accepted, and the receiver is between frames again
  pub accepted-read : first_broken rules f (view_of r.state f (area_with r f)) ≡ 0 → (es : List Event)
      → uncut channel r (map took (frame_bytes f) ++ es) ≡ fed (record_with f (view_of r.state f (area_with r f))) (uncut channel (next_of r f) es)
  unfolding judge accepted
  accepted-read e es = frame-read es ∙ ap (λ (t : Step Receiver). then_read t es) (rw (e, judge))

  pub next-between : Between (next_of r f)
  unfolding accepted placed
  next-between = record {
    live = b.live;
    pending = refl;
    work = by_cond (λ v. work_area ≤ length v) (is_command f) (placed r.state f (area_with r f)) (area_with r f) (λ _. rw length-write area-wide) (λ _. area-wide);
  }
