-- Rule 3's shape is kept by every byte and every finish, and a record is never longer than the longest. Assumes nothing.
use Prim.Native.Nat.{ℕ, zero, suc, ◌+◌, ◌≤◌, ◌<◌}
use mathlib.Core.Path.{◌≡◌, refl}
use mathlib.Core.Bool.{Bool, true, false, ◌&&◌, ◌||◌, not, cond, false≢true}
use mathlib.Core.List.{List, [], ◌∷◌, ◌++◌}
use native.Mathlib.Omega.{arith}
use lib.ListN.{length, take, drop, get_or, set, length-set, length-append, length-take}
use lib.Seq.{get_or-set_other}
use lib.Dec.{leb, ltb, eqb}
use borrow.Author.Tests.{eqb-true, eqb-false, eq-eqb, leb-true, leb-false, le-leb, ltb-true, ltb-false, lt-ltb}
use Rattle.requests.specs.declared.Phase.{Phase}
use Rattle.requests.specs.declared.Phase.TheVariants.{Free, Collecting, Waiting, Running, Draining}
use Rattle.requests.specs.declared.Slot.{Slot}
use Rattle.channel.specs.declared.Channel.{Channel}
use Rattle.frame.specs.Limits.{max_payload, max_command, slot_count, longest_record, frame_area, work_area, part_start}
use Rattle.frame.specs.Frame.{Frame, frame_of, is_even, is_type, is_new, is_more, data_follows, is_last}
use Rattle.frame.specs.Header.{length_of}
use Rattle.frame.specs.Records.{record_of, two, bit}
use Rattle.session.specs.Session.{Step}
use Rattle.session.specs.Demand3.{Keeps}
use Rattle.session.proofs.Laws.{not-zero}
use Rattle.channel.specs.Receiver.{Receiver, slot_at, place_of, slot_of, lowest_free, target, command_length, placed, command, refused, refused_work, command_slot, slots_after, accepted, judge, put, is_whole, too_long, counted, take_byte, with_finished, finish_state, finish, view_of}
use Rattle.requests.specs.Slots.{in_phase, is_id, slot_fits, id_in, slots_fit, used_count, enter, data_slot, finish_slot}
use Rattle.requests.specs.Phases.{free_slot, is_phase, takes_data, can_finish, code}
use Rattle.channel.specs.Channel.{dead_fits, plain_shape, held_shape, shape, channel}
use Rattle.channel.specs.Steps.{CountRight}
use Rattle.rules.specs.Rules.{command_byte, record_with, first_broken, is_command, rules}
use Rattle.rules.proofs.Bools.{and_l, and_r, and_i, and_no, or_r, no_not, no_is, clash, by_cond}
use Rattle.channel.proofs.SlotLaws.{found, inside, each_fits, set-fits, same_id, of_id}
use Rattle.channel.proofs.PhaseLaws.{used, takes-used}
use Rattle.rules.proofs.RuleLaws.{numbered, precedes, passed, in_range}
use Rattle.buffer.proofs.WriteLaws.{length-write}

-- the shape, part by part; the count of slots is the array's length
pub record Ok (r : Receiver) : Type 0 where
  pub work : work_area ≤ length r.work
  pub count : length r.state.slots ≡ slot_count
  pub pending : r.state.pending < frame_area
  pub slots : slots_fit r.state.slots ≡ true
  pub dead : dead_fits r.state.dead ≡ true
  pub active : CountRight r.state
  pub held : held_shape r ≡ true

abbrev in_order : Channel → Bool
in_order s = slots_fit s.slots && eqb s.active (used_count s.slots)

slots-in_order : (s : Channel) → plain_shape s ≡ true → in_order s ≡ true
unfolding plain_shape
slots-in_order s p = and_r (ltb s.pending frame_area) (in_order s) (and_l (ltb s.pending frame_area && in_order s) (dead_fits s.dead) p)

pub plain_counts : (s : Channel) → plain_shape s ≡ true → CountRight s
plain_counts s p = eqb-true s.active (used_count s.slots) (and_r (slots_fit s.slots) (eqb s.active (used_count s.slots)) (slots-in_order s p))

pub ok-start : (r : Receiver) → leb work_area (length r.work) ≡ true → length r.state.slots ≡ slot_count → shape r ≡ true → Ok r
unfolding shape plain_shape
ok-start r a c h =
    let s = r.state in
    let p : plain_shape s ≡ true = and_l (plain_shape s) (held_shape r) h in
    record {
      work = leb-true work_area (length r.work) a;
      count = c;
      pending = ltb-true s.pending frame_area (and_l (ltb s.pending frame_area) (in_order s) (and_l (ltb s.pending frame_area && in_order s) (dead_fits s.dead) p));
      slots = and_l (slots_fit s.slots) (eqb s.active (used_count s.slots)) (slots-in_order s p);
      dead = and_r (ltb s.pending frame_area && in_order s) (dead_fits s.dead) p;
      active = plain_counts s p;
      held = and_r (plain_shape s) (held_shape r) h;
    }

pub ok-plain : (r : Receiver) → Ok r → plain_shape r.state ≡ true
unfolding plain_shape
ok-plain r k =
    let s = r.state in
    and_i (ltb s.pending frame_area && in_order s) (dead_fits s.dead)
    (and_i (ltb s.pending frame_area) (in_order s) (lt-ltb s.pending frame_area k.pending)
    (and_i (slots_fit s.slots) (eqb s.active (used_count s.slots)) k.slots (eq-eqb s.active (used_count s.slots) k.active)))
    k.dead

pub ok-shape : (r : Receiver) → Ok r → shape r ≡ true
unfolding shape
ok-shape r k = and_i (plain_shape r.state) (held_shape r) (ok-plain r k) k.held

-- ---- the held length

pub held_e : (r : Receiver) → held_shape r ≡ true → 8 ≤ r.state.pending → (length_of r.work ≤ max_payload) × (r.state.pending < 8 + length_of r.work)
unfolding held_shape
held_e r e h = go (ltb r.state.pending 8) refl e
  where
    n : ℕ
    n = r.state.pending

    L : ℕ
    L = length_of r.work

    go : (c : Bool) → ltb n 8 ≡ c → (c || leb L max_payload && ltb n (8 + L)) ≡ true → (L ≤ max_payload) × (n < 8 + L)
    go true q p = absurd (below (ltb-true n 8 q))
      where
        below : n < 8 → ⊥
        below l = omega arith
    go false q p = (leb-true L max_payload (and_l (leb L max_payload) (ltb n (8 + L)) p), ltb-true n (8 + L) (and_r (leb L max_payload) (ltb n (8 + L)) p))

held-i : (r : Receiver) → (8 ≤ r.state.pending → (length_of r.work ≤ max_payload) × (r.state.pending < 8 + length_of r.work)) → held_shape r ≡ true
unfolding held_shape
held-i r h = go (ltb r.state.pending 8) refl
  where
    n : ℕ
    n = r.state.pending

    L : ℕ
    L = length_of r.work

    go : (c : Bool) → ltb n 8 ≡ c → (c || leb L max_payload && ltb n (8 + L)) ≡ true
    go true q = refl
    go false q =
        let (a, b) = h (ltb-false n 8 q) in
        and_i (leb L max_payload) (ltb n (8 + L)) (le-leb L max_payload a) (lt-ltb n (8 + L) b)

-- a byte past the third leaves the length as it was
pub length-later : (w : List ℕ) (n b : ℕ) → 3 ≤ n → length_of (set w n b) ≡ length_of w
unfolding length_of
length-later w n b h = rw (get_or-set_other w n 0 b 0 (omega arith), get_or-set_other w n 1 b 0 (omega arith), get_or-set_other w n 2 b 0 (omega arith))

-- ---- a frame that is not yet whole

module _ (r : Receiver) (b : ℕ) (k : Ok r) (short : too_long (put r b) ≡ false) (open' : is_whole (put r b) ≡ false) where
  n : ℕ
  n = r.state.pending

  L : ℕ
  L = length_of (set r.work n b)

  not-whole : suc n ≡ 8 + L → ⊥
  unfolding is_whole put n L
  not-whole = eqb-false (suc n) (8 + L) open'

  not-long : suc n ≡ 8 → L ≤ max_payload
  unfolding too_long put n L
  not-long e = ltb-false max_payload L (and_no (eqb (suc n) 8) (ltb max_payload L) short (eq-eqb (suc n) 8 e))

  later : 8 ≤ suc n → (L ≤ max_payload) × (suc n < 8 + L)
  unfolding n L
  later h = go (eqb (suc n) 8) refl
    where
      go : (c : Bool) → eqb (suc n) 8 ≡ c → (L ≤ max_payload) × (suc n < 8 + L)
      go true e =
          let e' : suc n ≡ 8 = eqb-true (suc n) 8 e in
          let l : L ≤ max_payload = not-long e' in
          (l, omega (arith, not-whole))
      go false e =
          let ne : suc n ≡ 8 → ⊥ = eqb-false (suc n) 8 e in
          let h8 : 8 ≤ n = omega arith in
          let q : L ≡ length_of r.work = length-later r.work n b (omega arith) in
          let (a, c) = held_e r k.held h8 in
          (omega arith, omega (arith, not-whole))

  still_open : Ok (put r b)
  unfolding put n L
  still_open = record {
    work = rw length-set k.work;
    count = k.count;
    pending = below (leb 8 (suc n)) refl;
    slots = k.slots;
    dead = k.dead;
    active = k.active;
    held = held-i (put r b) later;
  }
    where
      below : (c : Bool) → leb 8 (suc n) ≡ c → suc n < frame_area
      below true e = let (a, c) = later (leb-true 8 (suc n) e) in omega arith
      below false e = omega (arith, leb-false 8 (suc n) e)

-- ---- a whole frame

command-fits : (id n : ℕ) (m d : Bool) → is_even id ≡ false → n ≤ max_command
    → slot_fits (record { id = id; phase = cond m Collecting (cond d Waiting Running); databit = d; length = cond m n 0 }) ≡ true
unfolding slot_fits
command-fits id n true d e l = and_i (not (is_even id)) (leb n max_command) (no_is (is_even id) e) (le-leb n max_command l)
command-fits id n false true e l = and_i (not (is_even id) && true) true (and_i (not (is_even id)) true (no_is (is_even id) e) refl) refl
command-fits id n false false e l = and_i (not (is_even id)) true (no_is (is_even id) e) refl

-- what a slot holds for which data is taken
holds_none : (id n : ℕ) (p : Phase) (d : Bool) → slot_fits (record { id = id; phase = p; databit = d; length = n }) ≡ true → (eqb (code p) 2 || eqb (code p) 4) ≡ true
    → (not (is_even id) && d && eqb n 0) ≡ true
unfolding slot_fits code
holds_none id n Free d e w = absurd (false≢true w)
holds_none id n Collecting d e w = absurd (false≢true w)
holds_none id n Running d e w = absurd (false≢true w)
holds_none id n Waiting d e w = e
holds_none id n Draining d e w = e

-- it can run, and drain
can_enter : (x : Slot) → slot_fits x ≡ true → takes_data x.phase ≡ true → (slot_fits (enter Running x) ≡ true) × (slot_fits (enter Draining x) ≡ true)
unfolding slot_fits is_phase code enter
can_enter x e w =
    let odd = not (is_even x.id) in
    let k = holds_none x.id x.length x.phase x.databit e w in
    (and_i odd (eqb x.length 0) (and_l odd x.databit (and_l (odd && x.databit) (eqb x.length 0) k)) (and_r (odd && x.databit) (eqb x.length 0) k), k)

free-fits : slot_fits free_slot ≡ true
unfolding slot_fits
free-fits = refl

-- a slot that fits in the place of another: if it is used, it has the other's id
pub record Follows (x y : Slot) : Type 0 where
  pub fits : slot_fits y ≡ true
  pub same : in_phase Free y ≡ false → is_id y.id x ≡ true

follows_free : (x : Slot) → Follows x free_slot
unfolding is_phase code
follows_free x = record { fits = free-fits; same = λ u. clash refl u }

pub data_fits : (x : Slot) (f : Frame) → slot_fits x ≡ true → takes_data x.phase ≡ true → Follows x (data_slot x f)
unfolding data_slot enter
data_fits x f e w =
    by_cond (Follows x) (is_last f) (cond (in_phase Draining x) free_slot (enter Running x)) x
    (λ _. by_cond (Follows x) (in_phase Draining x) free_slot (enter Running x)
    (λ _. follows_free x)
    (λ _. record { fits = (can_enter x e w).0; same = λ _. of_id x (takes-used x.phase w) }))
    (λ _. record { fits = e; same = λ _. of_id x (takes-used x.phase w) })

pub finish-fits : (x : Slot) → slot_fits x ≡ true → Follows x (finish_slot x)
unfolding finish_slot enter code
finish-fits x e =
    by_cond (Follows x) (in_phase Waiting x) (enter Draining x) free_slot
    (λ w. record { fits = (can_enter x e (rw w)).1; same = λ _. of_id x (used Waiting x.phase refl w) })
    (λ _. follows_free x)

-- a command frame that passed 20, 21 and 23 has a slot, and room in the slot's part
pub room_of : (s : Channel) (f : Frame) (w : List ℕ) → length s.slots ≡ slot_count → numbered rules 20 f (view_of s f w) ≡ false → numbered rules 21 f (view_of s f w) ≡ false
    → numbered rules 23 f (view_of s f w) ≡ false → is_command f ≡ true → (target s f < slot_count) × (command_length s f ≤ max_command)
unfolding rules target slot_at code view_of
room_of s f w count e20 e21 e23 c = (place (is_new f) refl, ltb-false max_command (command_length s f) (and_no (is_command f) (ltb max_command (command_length s f)) e23 c))
  where
    place : (t : Bool) → is_new f ≡ t → cond t (lowest_free s) (place_of s f.request) < slot_count
    place true q =
        let l : lowest_free s < length s.slots =
        leb-false (length s.slots) (lowest_free s) (and_no (is_command f && is_new f) (leb (length s.slots) (lowest_free s)) e20 (and_i (is_command f) (is_new f) c q)) in
        omega (arith, count)
    place false q =
        let p : in_phase Collecting (slot_of s f.request) ≡ true =
        no_not (in_phase Collecting (slot_of s f.request))
        (and_no (is_command f && not (is_new f)) (not (in_phase Collecting (slot_of s f.request))) e21 (and_i (is_command f) (not (is_new f)) c (no_is (is_new f) q))) in
        let l : place_of s f.request < length s.slots = inside s.slots (place_of s f.request) (used Collecting (slot_of s f.request).phase refl p) in
        omega (arith, count)

module _ (s : Channel) (f : Frame) (w : List ℕ) (wide : work_area ≤ length w) (count : length s.slots ≡ slot_count) (fit : slots_fit s.slots ≡ true) where
  abbrev pub Room : Type 0
  Room = (target s f < slot_count) × (command_length s f ≤ max_command)

  pub room : (n : ℕ) → precedes rules 20 n ≡ true → precedes rules 21 n ≡ true → precedes rules 23 n ≡ true → is_command f ≡ true → first_broken rules f (view_of s f w) ≡ n → Room
  room n a20 a21 a23 c e =
      let v = view_of s f w in
      room_of s f w count (passed f v rules 20 n a20 e) (passed f v rules 21 n a21 e) (passed f v rules 23 n a23 e) c

  placed-wide : work_area ≤ length (placed s f w)
  unfolding placed
  placed-wide = rw length-write wide

  -- ---- refused

  refused-ok : (n : ℕ) (v : List ℕ) → CountRight s → dead_fits n ≡ true → work_area ≤ length v → Ok (refused n s v).next
  unfolding refused held_shape
  refused-ok n v a d l = record { work = l; count = count; pending = omega arith; slots = fit; dead = d; active = a; held = refl }

  refused-wide : (n : ℕ) → work_area ≤ length (refused_work n s f w)
  unfolding refused_work
  refused-wide n = by_cond (λ v. work_area ≤ length v) (leb 24 n && leb n 26) (placed s f w) w (λ _. placed-wide) (λ _. wide)

  dead-fits : (n : ℕ) → first_broken rules f (view_of s f w) ≡ suc n → dead_fits (suc n) ≡ true
  unfolding dead_fits rules view_of
  dead-fits n e =
      let (a, b) = in_range f (view_of s f w) rules 11 29 n refl e in
      or_r (eqb (suc n) 0) (leb 11 (suc n) && leb (suc n) 29) (and_i (leb 11 (suc n)) (leb (suc n) 29) (le-leb 11 (suc n) a) (le-leb (suc n) 29 b))

  -- ---- accepted

  module _ (e : first_broken rules f (view_of s f w) ≡ 0) where
    odd : is_even f.request ≡ false
    unfolding rules view_of
    odd = passed f (view_of s f w) rules 12 0 refl e

    -- the frame's id, if it is active, is the id of the command's slot
    mine : is_command f ≡ true → id_in f.request s.slots ≡ true → is_id f.request (get_or s.slots (target s f) free_slot) ≡ true
    unfolding target rules slot_at place_of view_of
    mine c h = go (is_new f) refl
      where
        at : is_id f.request (get_or s.slots (place_of s f.request) free_slot) ≡ true
        at = found f.request s.slots h

        go : (t : Bool) → is_new f ≡ t → is_id f.request (get_or s.slots (cond t (lowest_free s) (place_of s f.request)) free_slot) ≡ true
        go true q =
            clash (no_not (in_phase Free (slot_of s f.request))
            (and_no (is_command f && is_new f) (not (in_phase Free (slot_of s f.request))) (passed f (view_of s f w) rules 19 0 refl e) (and_i (is_command f) (is_new f) c q)))
            (same_id f.request (get_or s.slots (place_of s f.request) free_slot) at).0
        go false q = at

    pub takes : is_type 2 f ≡ true → takes_data (slot_of s f.request).phase ≡ true
    unfolding rules view_of
    takes t = no_not (takes_data (slot_of s f.request).phase) (and_no (is_type 2 f) (not (takes_data (slot_of s f.request).phase)) (passed f (view_of s f w) rules 27 0 refl e) t)

    slots_fit_lem : slots_fit (slots_after s f) ≡ true
    unfolding slots_after command_slot rules slot_at view_of
    slots_fit_lem =
        by_cond (λ l. slots_fit l ≡ true) (is_command f) (set s.slots (target s f) (command_slot s f))
        (cond (is_type 2 f) (set s.slots (place_of s f.request) (data_slot (slot_of s f.request) f)) s.slots)
        (λ c. set-fits s.slots (target s f) (command_slot s f) fit
        (command-fits f.request (command_length s f) (is_more f) (data_follows f) odd (room 0 refl refl refl c e).1) (λ u k. mine c k))
        (λ _. by_cond (λ l. slots_fit l ≡ true) (is_type 2 f) (set s.slots (place_of s f.request) (data_slot (slot_of s f.request) f)) s.slots
        (λ t. let d = data_fits (slot_of s f.request) f (each_fits s.slots (place_of s f.request) fit) (takes t) in
        set-fits s.slots (place_of s f.request) (data_slot (slot_of s f.request) f) fit d.fits (λ u k. d.same u))
        (λ _. fit))

    slots-count : length (slots_after s f) ≡ slot_count
    unfolding slots_after
    slots-count =
        by_cond (λ l. length l ≡ slot_count) (is_command f) (set s.slots (target s f) (command_slot s f))
        (cond (is_type 2 f) (set s.slots (place_of s f.request) (data_slot (slot_of s f.request) f)) s.slots)
        (λ _. rw length-set count)
        (λ _. by_cond (λ l. length l ≡ slot_count) (is_type 2 f) (set s.slots (place_of s f.request) (data_slot (slot_of s f.request) f)) s.slots
        (λ _. rw length-set count) (λ _. count))

    accepted-wide : work_area ≤ length (cond (is_command f) (placed s f w) w)
    accepted-wide = by_cond (λ v. work_area ≤ length v) (is_command f) (placed s f w) w (λ _. placed-wide) (λ _. wide)

    pub accepted-ok : s.dead ≡ 0 → Ok (accepted s f w).next
    unfolding accepted held_shape dead_fits
    accepted-ok d = record { work = accepted-wide; count = slots-count; pending = omega arith; slots = slots_fit_lem; dead = rw d; active = refl; held = refl }

    -- the record is no longer than the longest
    record_bound : length f.payload ≤ max_payload → length (record_with f (view_of s f w)) ≤ longest_record
    unfolding record_with record_of command rules command_length view_of
    record_bound l =
        by_cond (λ v. length v ≤ longest_record) (is_command f && not (is_more f)) (record_of 1 (two f.request ++ command_byte (data_follows f) (command s f w) ∷ command s f w))
        (cond (is_type 2 f && waiting) (record_of 2 (two f.request ++ bit (is_last f) ∷ f.payload)) [])
        (λ c.
        let a : (slot_at s (target s f)).length + length f.payload ≤ max_command = (room 0 refl refl refl (and_l (is_command f) (not (is_more f)) c) e).1 in
        let held : List ℕ = drop (part_start (target s f)) w in
        omega (arith, length-append (take (slot_at s (target s f)).length held) f.payload, length-take (slot_at s (target s f)).length held))
        (λ _. by_cond (λ v. length v ≤ longest_record) (is_type 2 f && waiting) (record_of 2 (two f.request ++ bit (is_last f) ∷ f.payload)) [] (λ _. omega arith) (λ _. omega arith))
      where
        waiting : Bool
        waiting = in_phase Waiting (slot_of s f.request)

-- ---- one byte

-- a live receiver counts the byte
pub take-live : (r : Receiver) (b : ℕ) → r.state.dead ≡ 0 → take_byte r b ≡ counted (put r b)
unfolding take_byte
take-live r b d = go r.state.dead d
  where
    go : (n : ℕ) → n ≡ 0 → elim n as (λ _. Step Receiver) [ zero ↦ counted (put r b) | suc n ↦ record { next = r; adds = [] } ] ≡ counted (put r b)
    go zero e = refl
    go (suc n) e = absurd (not-zero n e)

-- what holds of a live receiver's byte: of one that 11 refuses, of one that leaves its frame open, and of a frame's last byte where the frame
-- is accepted and where it is refused
module _ (r : Receiver) (b : ℕ) (P : Step Receiver → Type 0) where
  abbrev p : Receiver
  p = put r b

  abbrev f : Frame
  f = frame_of p.work

  abbrev broken : ℕ
  broken = first_broken rules f (view_of p.state f p.work)

  pub live-case : r.state.dead ≡ 0 → P (refused 11 p.state p.work) → (too_long p ≡ false → is_whole p ≡ false → P (record { next = p; adds = [] }))
      → (too_long p ≡ false → is_whole p ≡ true → broken ≡ 0 → P (accepted p.state f p.work))
      → ((n : ℕ) → too_long p ≡ false → is_whole p ≡ true → broken ≡ suc n → P (refused (suc n) p.state (refused_work (suc n) p.state f p.work)))
      → P (take_byte r b)
  unfolding counted judge
  live-case d long rest takes fails = rw (take-live r b d) (by-long (too_long p) refl)
    where
      by-rule : (n : ℕ) → too_long p ≡ false → is_whole p ≡ true → broken ≡ n → P (judge p.state f p.work)
      by-rule zero a h e = rw (e, judge) (takes a h e)
      by-rule (suc k) a h e = rw (e, judge) (fails k a h e)

      by_whole : (t : Bool) → too_long p ≡ false → is_whole p ≡ t → P (counted p)
      by_whole true a h = rw (a, h, counted) (by-rule broken a h refl)
      by_whole false a h = rw (a, h, counted) (rest a h)

      by-long : (t : Bool) → too_long p ≡ t → P (counted p)
      by-long true a = rw (a, counted) long
      by-long false a = by_whole (is_whole p) a refl

eleven : dead_fits 11 ≡ true
unfolding dead_fits
eleven = refl

module _ (r : Receiver) (b : ℕ) (k : Ok r) where
  w : List ℕ
  w = set r.work r.state.pending b

  wide : work_area ≤ length w
  unfolding w
  wide = rw length-set k.work

  -- a frame that is whole passed 11
  whole_length : too_long (put r b) ≡ false → is_whole (put r b) ≡ true → length_of w ≤ max_payload
  unfolding w too_long is_whole put
  whole_length short whole = go (eqb (suc n) 8) refl
    where
      n : ℕ
      n = r.state.pending

      L : ℕ
      L = length_of w

      go : (c : Bool) → eqb (suc n) 8 ≡ c → L ≤ max_payload
      go true e = ltb-false max_payload L (and_no (eqb (suc n) 8) (ltb max_payload L) short e)
      go false e =
          let q : suc n ≡ 8 + L = eqb-true (suc n) (8 + L) whole in
          let ne : suc n ≡ 8 → ⊥ = eqb-false (suc n) 8 e in
          let h8 : 8 ≤ n = omega arith in
          let same : L ≡ length_of r.work = length-later r.work n b (omega arith) in
          omega (arith, (held_e r k.held h8).0)

  payload-length : length_of w ≤ max_payload → length (frame_of w).payload ≤ max_payload
  unfolding frame_of
  payload-length l = omega (arith, length-take (length_of w) (drop 8 w))

  -- the shape is kept, and the record is no longer than the longest
  abbrev Fine : Step Receiver → Type 0
  Fine t = (Ok t.next) × (length t.adds ≤ longest_record)

  pub take-ok : Fine (take_byte r b)
  unfolding take_byte w put refused accepted
  take-ok = go r.state.dead refl
    where
      s : Channel
      s = (put r b).state

      go : (n : ℕ) → r.state.dead ≡ n → Fine (take_byte r b)
      go zero d =
          live-case r b Fine d
          (refused-ok s (frame_of w) w wide k.count k.slots 11 w k.active eleven wide, omega arith)
          (λ a h. (still_open r b k a h, omega arith))
          (λ a h e. (accepted-ok s (frame_of w) w wide k.count k.slots e d, record_bound s (frame_of w) w wide k.count k.slots e (payload-length (whole_length a h))))
          (λ n a h e. (refused-ok s (frame_of w) w wide k.count k.slots (suc n) _ k.active (dead-fits s (frame_of w) w wide k.count k.slots n e) (refused-wide s (frame_of w) w wide k.count k.slots (suc n)), omega arith))
      go (suc n) d = rw (d, take_byte) (k, omega arith)

-- a byte that does not close its frame adds no record
pub quiet : (r : Receiver) (b : ℕ) → is_whole (put r b) ≡ false → (take_byte r b).adds ≡ []
unfolding take_byte refused
quiet r b o = go r.state.dead refl
  where
    go : (n : ℕ) → r.state.dead ≡ n → (take_byte r b).adds ≡ []
    go zero d = live-case r b (λ t. t.adds ≡ []) d refl (λ a h. refl) (λ a h e. clash h o) (λ n a h e. refl)
    go (suc n) d = rw (d, take_byte)

-- ---- finish

finished-ok : (r : Receiver) (id : ℕ) → Ok r → Ok (record { state = with_finished r.state id; work = r.work })
unfolding with_finished held_shape slot_at
finished-ok r id k =
    let xs = r.state.slots in
    let i = place_of r.state id in
    let d = finish-fits (get_or xs i free_slot) (each_fits xs i k.slots) in
    record {
      work = k.work;
      count = rw length-set k.count;
      pending = k.pending;
      slots = set-fits xs i (finish_slot (get_or xs i free_slot)) k.slots d.fits (λ u h. d.same u);
      dead = k.dead;
      active = refl;
      held = k.held;
    }

pub finish-ok : (r : Receiver) (id : ℕ) → Ok r → Ok (finish r id).next
unfolding finish finish_state
finish-ok r id k = go r.state.dead (can_finish (slot_of r.state id).phase) refl refl
  where
    go : (n : ℕ) (t : Bool) → r.state.dead ≡ n → can_finish (slot_of r.state id).phase ≡ t → Ok (finish r id).next
    go zero true d t = rw (d, t, finish_state) (finished-ok r id k)
    go zero false d t = rw (d, t, finish_state) k
    go (suc n) t d l = rw (d, finish_state) k

-- what the laws over every receiver ask: an invariant that bytes and finishes keep
abbrev pub keeps : Keeps channel
keeps = record {
  Ok = Ok;
  roomy = λ r k. le-leb work_area (length r.work) k.work;
  shaped = ok-shape;
  plain = ok-plain;
  byte = λ r b k. (take-ok r b k).0;
  call = finish-ok;
  quiet = quiet;
  bound = λ r b k. (take-ok r b k).1;
}
