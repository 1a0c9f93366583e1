-- What a byte writes, and that no session writes past the work area's 81,927 bytes. Assumes nothing.
use Prim.Native.Nat.{ℕ, zero, suc, ◌+◌, ◌≤◌, ◌<◌}
use mathlib.Core.Path.{◌≡◌, refl, ap, ◌∙◌}
use mathlib.Core.Bool.{Bool, true, false, cond, ◌&&◌, ◌||◌, and-false}
use mathlib.Core.List.{List, [], ◌∷◌}
use native.Mathlib.Omega.{arith}
use lib.ListN.{length, drop, get_or, length-set}
use lib.Seq.{get_or-set_other}
use lib.Dec.{leb, eqb}
use borrow.Author.Tests.{leb-true, ne_eqb}
use Rattle.frame.specs.Limits.{max_command, slot_count, work_area, part_start}
use Rattle.frame.specs.Frame.{Frame}
use Rattle.session.specs.Demand3.{Keeps}
use Rattle.session.proofs.Laws.{not-zero, session-keeps}
use Rattle.rules.specs.Rules.{View, is_command, rules, first_broken}
use Rattle.rules.specs.Stages.{head_rules}
use Rattle.rules.proofs.Bools.{and_l, and_r, clash}
use Rattle.rules.proofs.RuleLaws.{passed}
use Rattle.rules.proofs.StageLaws.{head-none, of_command}
use Rattle.buffer.proofs.WriteLaws.{length-write, set-write, get_d_apart, drop_past}
use Rattle.channel.specs.declared.Channel.{Channel}
use Rattle.channel.specs.Receiver.{Receiver, slot_at, place_of, lowest_free, target, command_length, placed, view_of, refused, refused_work, accepted, put, is_whole, take_byte, finish}
use Rattle.channel.specs.Channel.{channel}
use Rattle.channel.proofs.ReceiverLaws.{Ok, live-case, room_of, keeps}
use Rattle.demands.proofs.Demand3.{ok}
use Rattle.demands.specs.Demands.{frame_with, fills, ByteWrites, PastKept}

-- ---- one byte

module _ (r : Receiver) (b : ℕ) (k : Ok r) (live : r.state.dead ≡ 0) where
  abbrev p : Receiver
  p = put r b

  abbrev s : Channel
  s = p.state

  abbrev w : List ℕ
  w = p.work

  abbrev f : Frame
  f = frame_with r b

  abbrev v : View
  v = view_of s f w

  -- accepted, or refused with 24, 25 or 26
  abbrev put-number : ℕ → Bool
  put-number n = eqb n 0 || leb 24 n && leb n 26

  -- a whole command frame is one of these
  abbrev filled : Receiver → Bool
  filled q = is_whole p && is_command f && put-number q.state.dead

  -- what is claimed of the work area, and that a payload has room
  record Left (q : Receiver) : Type 0 where
    work : q.work ≡ cond (filled q) (placed s f w) w
    inside : filled q ≡ true → (target s f < slot_count) × (command_length s f ≤ max_command)

  stays : (q : Receiver) → filled q ≡ false → q.work ≡ w → Left q
  stays q e h = record { work = rw e h; inside = λ t. clash t e }

  -- a command frame that rules 12 to 23 let pass has room
  has_room : (n : ℕ) → is_command f ≡ true → first_broken rules f v ≡ n → (1 ≤ n → 24 ≤ n) → (target s f < slot_count) × (command_length s f ≤ max_command)
  unfolding rules put
  has_room n c e h =
      let e' : first_broken head_rules f v ≡ 0 = head-none f v n e h in
      room_of s f w k.count (passed f v head_rules 20 0 refl e') (passed f v head_rules 21 0 refl e') (passed f v head_rules 23 0 refl e') c

  accepts : is_whole p ≡ true → first_broken rules f v ≡ 0 → Left (accepted s f w).next
  unfolding accepted put
  accepts h e = go (is_command f) refl
    where
      lives : put-number r.state.dead ≡ true
      lives = rw live

      go : (t : Bool) → is_command f ≡ t → Left (accepted s f w).next
      go true c = record { work = rw (h, c, lives); inside = λ _. has_room 0 c e (λ l. absurd (omega arith)) }
      go false c = stays (accepted s f w).next (rw (h, c)) (rw c)

  refuses : (n : ℕ) → is_whole p ≡ true → first_broken rules f v ≡ suc n → Left (refused (suc n) s (refused_work (suc n) s f w)).next
  unfolding refused refused_work
  refuses n h e = go (leb 24 (suc n) && leb (suc n) 26) refl
    where
      some : eqb (suc n) 0 ≡ false
      some = ne_eqb (suc n) 0 (not-zero n)

      go : (t : Bool) → (leb 24 (suc n) && leb (suc n) 26) ≡ t → Left (refused (suc n) s (refused_work (suc n) s f w)).next
      go true t =
          let a = leb-true 24 (suc n) (and_l (leb 24 (suc n)) (leb (suc n) 26) t) in
          let c = of_command f v (suc n) e a (leb-true (suc n) 26 (and_r (leb 24 (suc n)) (leb (suc n) 26) t)) in
          record { work = rw (h, c, t, some); inside = λ _. has_room (suc n) c e (λ _. a) }
      go false t = stays (refused (suc n) s (refused_work (suc n) s f w)).next (rw (h, t, some) (and-false (is_command f))) (rw t)

  taken : Left (take_byte r b).next
  unfolding refused
  taken =
      live-case r b (λ t. Left t.next) live
      (stays (refused 11 s w).next (and-false (is_whole p && is_command f)) refl)
      (λ a h. stays p (rw h) refl)
      (λ a. accepts)
      (λ n a. refuses n)

  -- ---- the places that are as they were

  -- where the payload goes
  abbrev at : ℕ
  at = part_start (target s f) + (slot_at s (target s f)).length

  own-place : (i : ℕ) → (i ≡ r.state.pending → ⊥) → get_or w i 0 ≡ get_or r.work i 0
  unfolding put
  own-place i o = get_or-set_other r.work r.state.pending i b 0 o

  elsewhere : (i : ℕ) (c : Bool) → (i ≡ r.state.pending → ⊥) → (c ≡ true → at ≤ i → i < at + length f.payload → ⊥) → get_or (cond c (placed s f w) w) i 0 ≡ get_or r.work i 0
  unfolding placed
  elsewhere i true o h = get_d_apart w at f.payload i (h refl) ∙ own-place i o
  elsewhere i false o h = own-place i o

  -- past the places of the frame and of the slots' parts
  own-past : drop work_area w ≡ drop work_area r.work
  unfolding put
  own-past = ap (drop work_area) (set-write r.work r.state.pending b) ∙ drop_past r.work r.state.pending (b ∷ []) work_area (omega (arith, k.pending))

  past : (c : Bool) → (c ≡ true → (target s f < slot_count) × (command_length s f ≤ max_command)) → drop work_area (cond c (placed s f w) w) ≡ drop work_area r.work
  unfolding placed command_length
  past true h = let (a, l) = h refl in drop_past w at f.payload work_area (omega arith) ∙ own-past
  past false h = own-past

  live-past : drop work_area (take_byte r b).next.work ≡ drop work_area r.work
  live-past = ap (drop work_area) taken.work ∙ past (filled (take_byte r b).next) taken.inside

  size : (c : Bool) → length (cond c (placed s f w) w) ≡ length r.work
  unfolding placed put
  size true = length-write w at f.payload ∙ length-set r.work r.state.pending b
  size false = length-set r.work r.state.pending b

  live-size : length (take_byte r b).next.work ≡ length r.work
  live-size = ap length taken.work ∙ size (filled (take_byte r b).next)

pub byte_writes : ByteWrites
unfolding fills placed command_length put target slot_at lowest_free place_of
byte_writes r k live b =
    let t = taken r b (ok r k) live in
    record { work = t.work; inside = t.inside; elsewhere = λ i a h. rw t.work (elsewhere r b (ok r k) live i (fills r b) a h) }

-- ---- a whole session

-- bytes and finishes keep what is past the work area's bytes, and its length
record Beyond (rest : List ℕ) (n : ℕ) (q : Receiver) : Type 0 where
  ok : Ok q
  same : drop work_area q.work ≡ rest
  size : length q.work ≡ n

byte_past : (rest : List ℕ) (n : ℕ) (q : Receiver) (b : ℕ) → Beyond rest n q → Beyond rest n (take_byte q b).next
unfolding take_byte
byte_past rest n q b h = go q.state.dead refl
  where
    go : (d : ℕ) → q.state.dead ≡ d → Beyond rest n (take_byte q b).next
    go zero e = record { ok = keeps.byte q b h.ok; same = live-past q b h.ok e ∙ h.same; size = live-size q b h.ok e ∙ h.size }
    go (suc d) e = rw (e, take_byte) h

keeps-past : (rest : List ℕ) (n : ℕ) → Keeps channel
unfolding finish
keeps-past rest n = record {
  Ok = Beyond rest n;
  roomy = λ r h. keeps.roomy r h.ok;
  shaped = λ r h. keeps.shaped r h.ok;
  plain = λ r h. keeps.plain r h.ok;
  byte = byte_past rest n;
  call = λ r id h. record { ok = keeps.call r id h.ok; same = h.same; size = h.size };
  quiet = keeps.quiet;
  bound = λ r b h. keeps.bound r b h.ok;
}

pub past-kept : PastKept
unfolding keeps-past
past-kept r k cs =
    let start : Beyond (drop work_area r.work) (length r.work) r = record { ok = ok r k; same = refl; size = refl } in
    let end = session-keeps channel (keeps-past (drop work_area r.work) (length r.work)) r start cs in
    (end.same, end.size)
