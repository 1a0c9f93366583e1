-- The receiver seen from one request: its own frames and finishes move it as `Request` says, all else leaves it. Assumes nothing.
use Prim.Native.Nat.{ℕ, zero, suc, ◌+◌, ◌≤◌, ◌<◌}
use mathlib.Core.Path.{◌≡◌, refl, sym, ap, ◌∙◌, subst}
use mathlib.Core.Logic.{◌⊎◌, inl, inr}
use mathlib.Core.Bool.{Bool, true, false, ◌&&◌, ◌||◌, not, cond}
use mathlib.Core.List.{List, [], ◌++◌}
use native.Mathlib.Omega.{arith}
use lib.ListN.{length, take, drop, get_or, set, get_or-eq_default}
use lib.Seq.{drop-set-lt}
use lib.Dec.{leb, ltb, eqb}
use borrow.Author.Tests.{eqb-true, eq-eqb, leb-true, le-leb, ltb-true, ltb-false}
use Rattle.requests.specs.declared.Phase.{Phase}
use Rattle.requests.specs.declared.Phase.TheVariants.{Free, Collecting, Waiting, Running, Draining}
use Rattle.requests.specs.declared.Slot.{Slot}
use Rattle.channel.specs.declared.Channel.{Channel}
use Rattle.frame.specs.Limits.{max_command, slot_count, frame_area, work_area, part_start}
use Rattle.session.specs.Session.{Reply}
use Rattle.frame.specs.Frame.{Frame, is_even, is_type, is_new, is_more, data_follows, is_last}
use Rattle.demands.specs.Demands.{fresh_on}
use Rattle.channel.specs.Receiver.{Receiver, fresh_state, with_pending, with_slots, with_slot, with_streams, slot_at, place_of, slot_of, lowest_free, target, command_length, placed, command, command_slot, slots_after, streams_after, accepted, put, with_finished, finish_state, finish, view_of}
use Rattle.frame.specs.Records.{bit}
use Rattle.requests.specs.Slots.{in_phase, is_id, first_slot, slot_fits, apart, slots_fit, used_bit, used_count, enter, data_slot, finish_slot}
use Rattle.requests.specs.Phases.{free_slot, is_phase, can_finish, code}
use Rattle.channel.specs.Channel.{dead_fits, plain_shape, held_shape, shape}
use Rattle.demands.specs.Request.{ending, item_of, Request, idle, is_in, enters, moved}
use Rattle.rules.specs.Rules.{first_broken, is_command, rules}
use Rattle.rules.proofs.Bools.{and_r, and_i, and_no, no_not, no_is, fails, clash, by_cond}
use Rattle.channel.proofs.SlotLaws.{inside, each_fits, same_id, of_id, freed_slot}
use Rattle.rules.proofs.RuleLaws.{passed}
use Rattle.buffer.proofs.WriteLaws.{own-part, other-part}
use Rattle.demands.proofs.PlaceLaws.{hit, missed, placed_at}
use Rattle.channel.proofs.PhaseLaws.{used, takes-used, finish-used}
use Rattle.channel.proofs.ReceiverLaws.{Ok, ok-start, Room, room, takes, Follows, data_fits, finish-fits}

-- the receiver seen from a request
unfoldable pub seen : ℕ → Receiver → Request
seen id r =
    let x = slot_of r.state id in
    record { phase = x.phase; databit = x.databit; bytes = take x.length (drop (part_start (place_of r.state id)) r.work) }

-- two receivers look alike to a request
seen_eq : (id : ℕ) (r q : Receiver) → slot_of q.state id ≡ slot_of r.state id
    → take (slot_of r.state id).length (drop (part_start (place_of q.state id)) q.work) ≡ take (slot_of r.state id).length (drop (part_start (place_of r.state id)) r.work)
    → seen id q ≡ seen id r
unfolding seen
seen_eq id r q e h = λ i. record { phase = (e i).phase; databit = (e i).databit; bytes = (ap (λ (x : Slot). take x.length (drop (part_start (place_of q.state id)) q.work)) e ∙ h) i }

seen_at : (id : ℕ) (q : Receiver) (y : Slot) (i : ℕ) → place_of q.state id ≡ i → slot_at q.state i ≡ y
    → seen id q ≡ record { phase = y.phase; databit = y.databit; bytes = take y.length (drop (part_start i) q.work) }
unfolding seen
seen_at id q y i p h = rw (p, h)

-- where a slot's phase leaves a length other than 0, it is collecting
slot-length : (id n : ℕ) (p : Phase) (d : Bool) → slot_fits (record { id = id; phase = p; databit = d; length = n }) ≡ true → (n ≤ max_command) × (eqb (code p) 1 ≡ false → n ≡ 0)
unfolding slot_fits code
slot-length id n Free d e = let z : n ≡ 0 = eqb-true n 0 (and_r (eqb id 0 && not d) (eqb n 0) e) in (omega arith, λ _. z)
slot-length id n Collecting d e = (leb-true n max_command (and_r (not (is_even id)) (leb n max_command) e), λ k. clash refl k)
slot-length id n Waiting d e = let z : n ≡ 0 = eqb-true n 0 (and_r (not (is_even id) && d) (eqb n 0) e) in (omega arith, λ _. z)
slot-length id n Draining d e = let z : n ≡ 0 = eqb-true n 0 (and_r (not (is_even id) && d) (eqb n 0) e) in (omega arith, λ _. z)
slot-length id n Running d e = let z : n ≡ 0 = eqb-true n 0 (and_r (not (is_even id)) (eqb n 0) e) in (omega arith, λ _. z)

pub short-slot : (x : Slot) → slot_fits x ≡ true → x.length ≤ max_command
short-slot x e = (slot-length x.id x.length x.phase x.databit e).0

pub free_empty : (x : Slot) → slot_fits x ≡ true → in_phase Free x ≡ true → x.length ≡ 0
unfolding is_phase code
free_empty x e f =
    let z : code x.phase ≡ 0 = eqb-true (code x.phase) 0 f in
    (slot-length x.id x.length x.phase x.databit e).1 (rw z)

-- a command's frame, by its flag for more
frame_form : (t d : Bool) (n : ℕ) (rest bytes : List ℕ) → take n rest ≡ bytes
    → ◌≡◌ {A = Request} (record { phase = cond t Collecting (cond d Waiting Running); databit = d; bytes = take (cond t n 0) rest })
    (cond t (record { phase = Collecting; databit = d; bytes = bytes }) (record { phase = cond d Waiting Running; databit = d; bytes = [] }))
frame_form true d n rest bytes h = λ i. record { phase = Collecting; databit = d; bytes = h i }
frame_form false d n rest bytes h = refl

not_free : (m d : Bool) (id n : ℕ) → in_phase Free (record { id = id; phase = cond m Collecting (cond d Waiting Running); databit = d; length = n }) ≡ false
unfolding is_phase code
not_free true d id n = refl
not_free false true id n = refl
not_free false false id n = refl

-- the search for a free slot ends at one, or behind the last slot
pub lowest_is-free : (s : Channel) → in_phase Free (slot_at s (lowest_free s)) ≡ true
unfolding slot_at lowest_free is_phase code
lowest_is-free s = go (ltb i (length s.slots)) refl
  where
    i : ℕ
    i = first_slot (in_phase Free) s.slots

    go : (t : Bool) → ltb i (length s.slots) ≡ t → in_phase Free (get_or s.slots i free_slot) ≡ true
    go true e = hit (in_phase Free) s.slots (ltb-true i (length s.slots) e)
    go false e = rw (get_or-eq_default s.slots free_slot (ltb-false i (length s.slots) e))

-- a new command's id is not active
abbrev pub Fresh : Channel → Frame → Type 0
Fresh s f = is_new f ≡ true → in_phase Free (slot_of s f.request) ≡ true

-- then the bytes that the command's slot holds are the request's
pub held_bytes : (s : Channel) (f : Frame) (w : List ℕ) → slots_fit s.slots ≡ true → Fresh s f
    → take (slot_at s (target s f)).length (drop (part_start (target s f)) w) ≡ (seen f.request (record { state = s; work = w })).bytes
unfolding target seen slot_at
held_bytes s f w fit k =
    by_cond (λ i. take (slot_at s i).length (drop (part_start i) w) ≡ (seen f.request (record { state = s; work = w })).bytes) (is_new f) (lowest_free s) (place_of s f.request)
    (λ n. rw (
      free_empty (slot_at s (lowest_free s)) (each_fits s.slots (lowest_free s) fit) (lowest_is-free s),
      free_empty (slot_of s f.request) (each_fits s.slots (place_of s f.request) fit) (k n),
    ))
    (λ n. refl)

-- ---- another slot in the place of a request's own

-- an active id's slot has it
has_id : (s : Channel) (id : ℕ) → in_phase Free (slot_of s id) ≡ false → is_id id (slot_of s id) ≡ true
unfolding slot_at place_of
has_id s id u = hit (is_id id) s.slots (inside s.slots (first_slot (is_id id) s.slots) u)

-- another id's slot does not
not-mine : (id other : ℕ) (x : Slot) → (other ≡ id → ⊥) → is_id other x ≡ true → is_id id x ≡ false
not-mine id other x ne h = fails (is_id id x) (λ k. ne (sym (same_id other x h).1 ∙ (same_id id x k).1))

-- and no slot that follows it
not_follower : (id other : ℕ) (x y : Slot) → (other ≡ id → ⊥) → is_id other x ≡ true → Follows x y → is_id id y ≡ false
not_follower id other x y ne h m =
    fails (is_id id y) (λ k. let (u, q) = same_id id y k in ne (sym (same_id other x h).1 ∙ (same_id y.id x (m.same u)).1 ∙ q))

module _ (r : Receiver) (id : ℕ) (fit : slots_fit r.state.slots ≡ true) (active : in_phase Free (slot_of r.state id) ≡ false) where
  abbrev own : Slot
  own = slot_of r.state id

  abbrev after : Slot → Receiver
  after y = record { state = with_slot r.state (place_of r.state id) y; work = r.work }

  -- a free one: the request is idle
  sees_free : seen id (after free_slot) ≡ idle
  unfolding place_of slot_at idle
  sees_free = seen_at id (after free_slot) free_slot (place_of (after free_slot).state id) refl (freed_slot id r.state.slots fit)

  -- its own in another phase: so is the request
  sees_entered : (p : Phase) → eqb (code p) 0 ≡ false → seen id (after (enter p own)) ≡ enters p (seen id r)
  unfolding place_of slot_at seen enter enters is_id is_phase code
  sees_entered p n =
      let k : is_id id (enter p own) ≡ true = rw n (eq-eqb own.id id (same_id id own (has_id r.state id active)).1) in
      let d = placed_at (is_id id) r.state.slots (place_of r.state id) (enter p own) (omega arith) (inside r.state.slots (place_of r.state id) active) k in
      seen_at id (after (enter p own)) (enter p own) (place_of r.state id) d.0 d.1

  -- one that follows its own: no other request sees it
  others_see : (y : Slot) → Follows own y → (j : ℕ) → (id ≡ j → ⊥) → seen j (after y) ≡ seen j r
  unfolding place_of slot_at
  others_see y m j ne =
      let h : is_id id own ≡ true = has_id r.state id active in
      let d = missed (is_id j) r.state.slots (place_of r.state id) y (not_follower j id own y ne h m) (not-mine j id own ne h) in
      seen_eq j r (after y) (rw d.0 d.1) (rw d.0)

-- ---- a frame that is accepted

module _ (s : Channel) (f : Frame) (w : List ℕ) (wide : work_area ≤ length w) (count : length s.slots ≡ slot_count) (fit : slots_fit s.slots ≡ true) (e : first_broken rules f (view_of s f w) ≡ 0) where
  free-not : (id : ℕ) (x : Slot) → in_phase Free x ≡ true → is_id id x ≡ false
  free-not id x h = fails (is_id id x) (λ k. clash h (same_id id x k).0)

  pub collects : is_command f ≡ true → is_new f ≡ false → in_phase Collecting (slot_of s f.request) ≡ true
  unfolding rules view_of
  collects c n =
      no_not (in_phase Collecting (slot_of s f.request))
      (and_no (is_command f && not (is_new f)) (not (in_phase Collecting (slot_of s f.request))) (passed f (view_of s f w) rules 21 0 refl e) (and_i (is_command f) (not (is_new f)) c (no_is (is_new f) n)))

  pub fresh-id : is_command f ≡ true → Fresh s f
  unfolding rules view_of
  fresh-id c n =
      no_not (in_phase Free (slot_of s f.request))
      (and_no (is_command f && is_new f) (not (in_phase Free (slot_of s f.request))) (passed f (view_of s f w) rules 19 0 refl e) (and_i (is_command f) (is_new f) c n))

  rm : is_command f ≡ true → Room s f w wide count fit
  unfolding rules view_of
  rm c = room s f w wide count fit 0 refl refl refl c e

  -- the command's slot before the frame: free, or the id's own
  target-other : (id : ℕ) → is_command f ≡ true → (f.request ≡ id → ⊥) → is_id id (slot_at s (target s f)) ≡ false
  unfolding target code
  target-other id c ne =
      by_cond (λ i. is_id id (slot_at s i) ≡ false) (is_new f) (lowest_free s) (place_of s f.request)
      (λ n. free-not id (slot_at s (lowest_free s)) (lowest_is-free s))
      (λ n. not-mine id f.request (slot_of s f.request) ne (has_id s f.request (used Collecting (slot_of s f.request).phase refl (collects c n))))

  -- ---- another request's frame

  -- the id's part is not written
  part-other : (id : ℕ) → is_command f ≡ true → (f.request ≡ id → ⊥)
      → take (slot_of s id).length (drop (part_start (place_of s id)) (placed s f w)) ≡ take (slot_of s id).length (drop (part_start (place_of s id)) w)
  unfolding placed slot_at command_length
  part-other id c ne = go (in_phase Free (slot_of s id)) refl
    where
      x : Slot
      x = slot_of s id

      i : ℕ
      i = place_of s id

      j : ℕ
      j = target s f

      at : ℕ
      at = part_start j + (slot_at s j).length

      fits : slot_fits x ≡ true
      fits = each_fits s.slots i fit

      Same : ℕ → Type 0
      Same n = take n (drop (part_start i) (placed s f w)) ≡ take n (drop (part_start i) w)

      apart : is_id id x ≡ true → (i ≡ j → ⊥)
      apart h q = clash (rw q at h) (target-other id c ne)

      side : i < slot_count → (i ≡ j → ⊥) → (t : Bool) → ltb i j ≡ t → (part_start i + x.length ≤ at) ⊎ (at + length f.payload ≤ part_start i)
      side l k true h =
          let a : i < j = ltb-true i j h in
          let b : x.length ≤ max_command = short-slot x fits in
          inl (omega arith)
      side l k false h =
          let a : j ≤ i = ltb-false i j h in
          let b : (slot_at s j).length + length f.payload ≤ max_command = (rm c).1 in
          inr (omega (arith, k))

      go : (t : Bool) → in_phase Free x ≡ t → Same x.length
      go true h = subst Same (sym (free_empty x fits h)) refl
      go false h =
          let l : i < length s.slots = inside s.slots i h in
          let b : (slot_at s j).length + length f.payload ≤ max_command = (rm c).1 in
          let t : j < slot_count = (rm c).0 in
          other-part w (part_start i) x.length at f.payload (omega arith) (side (omega (arith, count)) (apart (has_id s id h)) (ltb i j) refl)

  not-id : (id : ℕ) (y : Slot) → (y.id ≡ id → ⊥) → is_id id y ≡ false
  not-id id y ne = fails (is_id id y) (λ k. ne (same_id id y k).1)

  -- the id's slot is not touched
  slot-other : (id : ℕ) → ((is_command f || is_type 2 f) ≡ true → f.request ≡ id → ⊥)
      → (first_slot (is_id id) (slots_after s f) ≡ first_slot (is_id id) s.slots)
      × (get_or (slots_after s f) (first_slot (is_id id) s.slots) free_slot ≡ get_or s.slots (first_slot (is_id id) s.slots) free_slot)
  unfolding slots_after slot_at command_slot
  slot-other id ne =
      by_cond Same (is_command f) (set s.slots (target s f) (command_slot s f)) (cond (is_type 2 f) (set s.slots (place_of s f.request) (data_slot x f)) s.slots)
      (λ c. let n : f.request ≡ id → ⊥ = ne (rw c) in
      missed (is_id id) s.slots (target s f) (command_slot s f) (not-id id (command_slot s f) n) (target-other id c n))
      (λ c. by_cond Same (is_type 2 f) (set s.slots (place_of s f.request) (data_slot x f)) s.slots
      (λ t. let n : f.request ≡ id → ⊥ = ne (rw (c, t)) in
      let k = takes s f w wide count fit e t in
      let h : is_id f.request x ≡ true = has_id s f.request (takes-used x.phase k) in
      missed (is_id id) s.slots (place_of s f.request) (data_slot x f)
      (not_follower id f.request x (data_slot x f) n h (data_fits x f (each_fits s.slots (place_of s f.request) fit) k)) (not-mine id f.request x n h))
      (λ t. (refl, refl)))
    where
      x : Slot
      x = slot_of s f.request

      Same : List Slot → Type 0
      Same l = (first_slot (is_id id) l ≡ first_slot (is_id id) s.slots) × (get_or l (first_slot (is_id id) s.slots) free_slot ≡ get_or s.slots (first_slot (is_id id) s.slots) free_slot)

  abbrev before : Receiver
  before = record { state = s; work = w }

  pub other-frame : (id : ℕ) → ((is_command f || is_type 2 f) ≡ true → f.request ≡ id → ⊥) → seen id (accepted s f w).next ≡ seen id before
  unfolding accepted slot_at place_of
  other-frame id ne =
      let h = slot-other id ne in
      seen_eq id before (accepted s f w).next (rw h.0 h.1)
      (rw h.0 (by_cond (λ v. take (slot_of s id).length (drop (part_start (place_of s id)) v) ≡ take (slot_of s id).length (drop (part_start (place_of s id)) w)) (is_command f) (placed s f w) w
      (λ c. part-other id c (ne (rw c))) (λ _. refl)))

  -- ---- its own frame

  absent : in_phase Free (slot_of s f.request) ≡ true → length s.slots ≤ first_slot (is_id f.request) s.slots
  unfolding slot_at place_of
  absent h = go (ltb (first_slot (is_id f.request) s.slots) (length s.slots)) refl
    where
      k : ℕ
      k = first_slot (is_id f.request) s.slots

      go : (t : Bool) → ltb k (length s.slots) ≡ t → length s.slots ≤ k
      go true l = clash h (same_id f.request (get_or s.slots k free_slot) (hit (is_id f.request) s.slots (ltb-true k (length s.slots) l))).0
      go false l = ltb-false k (length s.slots) l

  own-place : is_command f ≡ true → (first_slot (is_id f.request) (set s.slots (target s f) (command_slot s f)) ≡ target s f)
      × (get_or (set s.slots (target s f) (command_slot s f)) (target s f) free_slot ≡ command_slot s f)
  unfolding target command_slot place_of
  own-place c =
      let l : target s f < slot_count = (rm c).0 in
      placed_at (is_id f.request) s.slots (target s f) (command_slot s f)
      (by_cond (λ i. i < slot_count → i ≤ first_slot (is_id f.request) s.slots) (is_new f) (lowest_free s) (place_of s f.request)
      (λ n k. omega (arith, absent (fresh-id c n), count)) (λ n k. omega arith) l)
      (omega (arith, count))
      (of_id (command_slot s f) (not_free (is_more f) (data_follows f) f.request (cond (is_more f) (command_length s f) 0)))

  -- and they stand in its part
  part_bytes : is_command f ≡ true → take (command_length s f) (drop (part_start (target s f)) (placed s f w)) ≡ (seen f.request before).bytes ++ f.payload
  unfolding command command_length placed
  part_bytes c =
      let t : target s f < slot_count = (rm c).0 in
      let b : (slot_at s (target s f)).length + length f.payload ≤ max_command = (rm c).1 in
      own-part w (part_start (target s f)) (slot_at s (target s f)).length f.payload (omega arith) ∙ ap (λ (l : List ℕ). l ++ f.payload) (held_bytes s f w fit (fresh-id c))

  with_slots_lem : List Slot → List ℕ → Receiver
  with_slots_lem l v = record { state = with_streams (with_slots (with_pending s 0) l) (streams_after s f); work = v }

  after-command : is_command f ≡ true → (accepted s f w).next ≡ with_slots_lem (set s.slots (target s f) (command_slot s f)) (placed s f w)
  unfolding accepted slots_after with_slots_lem
  after-command c = rw c

  abbrev Moved : Receiver → Type 0
  Moved q = seen f.request q ≡ moved (seen f.request before) (item_of f)

  moved-command : is_command f ≡ true → (q : Request)
      → moved q (item_of f) ≡ cond (is_more f) (record { phase = Collecting; databit = data_follows f; bytes = q.bytes ++ f.payload }) (record { phase = cond (data_follows f) Waiting Running; databit = data_follows f; bytes = [] })
  unfolding moved item_of is_more data_follows is_command is_type
  moved-command c q = rw c

  own-command : is_command f ≡ true → Moved (accepted s f w).next
  unfolding with_slots_lem place_of slot_at command_slot
  own-command c =
      rw (after-command c)
      (seen_at f.request (with_slots_lem (set s.slots (target s f) (command_slot s f)) (placed s f w)) (command_slot s f) (target s f) (own-place c).0 (own-place c).1
      ∙ frame_form (is_more f) (data_follows f) (command_length s f) (drop (part_start (target s f)) (placed s f w)) ((seen f.request before).bytes ++ f.payload) (part_bytes c)
      ∙ sym (moved-command c (seen f.request before)))

  -- a data frame
  pub not-command : is_type 2 f ≡ true → is_command f ≡ false
  unfolding is_command is_type
  not-command t = rw (eqb-true f.type 2 t)

  after_data : is_type 2 f ≡ true → (accepted s f w).next ≡ with_slots_lem (set s.slots (place_of s f.request) (data_slot (slot_of s f.request) f)) w
  unfolding accepted slots_after with_slots_lem
  after_data t = rw (not-command t, t)

  abbrev mine : Slot
  mine = slot_of s f.request

  -- by the flag for last, and whether the request drains
  data_seen : in_phase Free mine ≡ false → (l d : Bool) → seen f.request (with_slots_lem (set s.slots (place_of s f.request) (cond l (cond d free_slot (enter Running mine)) mine)) w)
      ≡ cond l (cond d idle (enters Running (seen f.request before))) (seen f.request before)
  unfolding with_slots_lem place_of slot_at seen enter enters is_phase code
  data_seen u true true = sees_free before f.request fit u
  data_seen u true false = sees_entered before f.request fit u Running refl
  data_seen u false d = sees_entered before f.request fit u mine.phase u

  pub moved_data : is_type 2 f ≡ true → (q : Request) → moved q (item_of f) ≡ cond (is_last f) (cond (is_in Draining q) idle (enters Running q)) q
  unfolding moved item_of is_last is_type
  moved_data t q = rw (eqb-true f.type 2 t)

  own_data : is_type 2 f ≡ true → Moved (accepted s f w).next
  unfolding data_slot seen
  own_data t =
      rw (after_data t)
      (data_seen (takes-used mine.phase (takes s f w wide count fit e t)) (is_last f) (in_phase Draining mine) ∙ sym (moved_data t (seen f.request before)))

  pub own-frame : (is_command f || is_type 2 f) ≡ true → Moved (accepted s f w).next
  own-frame h = go (is_command f) refl h
    where
      go : (c : Bool) → is_command f ≡ c → (c || is_type 2 f) ≡ true → Moved (accepted s f w).next
      go true c k = own-command c
      go false c k = own_data k

-- ---- one byte

-- a byte that completes no frame is not seen
pub put-seen : (id : ℕ) (r : Receiver) (b : ℕ) → r.state.pending < frame_area → seen id (put r b) ≡ seen id r
unfolding seen put slot_at place_of
put-seen id r b l =
    let i : ℕ = first_slot (is_id id) r.state.slots in
    rw (drop-set-lt (part_start i) r.work r.state.pending b (omega arith))

pub never : {A : Type 0} (n : ℕ) → suc n ≡ 0 → A
never n q = absurd (z q)
  where
    z : suc n ≡ 0 → ⊥
    z k = omega arith

-- ---- finish

pub data Finished (r : Receiver) (j : ℕ) : Reply Receiver → Type 0 where
  taken : can_finish (slot_of r.state j).phase ≡ true → Finished r j (record { next = record { state = with_finished r.state j; work = r.work }; number = 0 })
  stays : can_finish (slot_of r.state j).phase ≡ false → Finished r j (record { next = r; number = 4 })

abbrev lift : Receiver → Reply Channel → Reply Receiver
lift r a = record { next = record { state = a.next; work = r.work }; number = a.number }

pub finish_cases : (r : Receiver) (j : ℕ) → r.state.dead ≡ 0 → Finished r j (finish r j)
unfolding finish finish_state
finish_cases r j live = go r.state.dead (can_finish (slot_of r.state j).phase) live refl
  where
    go : (n : ℕ) (t : Bool) → n ≡ 0 → can_finish (slot_of r.state j).phase ≡ t
        → Finished r j (lift r (elim n as (λ _. Reply Channel) [
          | suc n ↦ record { next = r.state; number = suc n }
          | zero ↦ elim t as (λ _. Reply Channel) [ true ↦ record { next = with_finished r.state j; number = 0 } | false ↦ record { next = r.state; number = 4 } ]
        ]))
    go zero true e h = taken h
    go zero false e h = stays h
    go (suc n) t e h = never n e

pub finish-other : (id : ℕ) (r : Receiver) (j : ℕ) → Ok r → (j ≡ id → ⊥) → (t : Reply Receiver) → Finished r j t → seen id t.next ≡ seen id r
unfolding with_finished slot_at
finish-other id r j k ne t (stays h) = refl
finish-other id r j k ne t (taken h) =
    let x = slot_of r.state j in
    others_see r j k.slots (finish-used x.phase h) (finish_slot x) (finish-fits x (each_fits r.state.slots (place_of r.state j) k.slots)) id ne

pub finish-own : (id : ℕ) (r : Receiver) → Ok r → (t : Reply Receiver) → Finished r id t → seen id t.next ≡ moved (seen id r) ending
unfolding with_finished finish_slot moved seen code
finish-own id r k t (stays h) = go (in_phase Waiting x) (in_phase Running x) h
  where
    x : Slot
    x = slot_of r.state id

    go : (w u : Bool) → (w || u) ≡ false → seen id r ≡ cond w (enters Draining (seen id r)) (cond u idle (seen id r))
    go true u q = clash refl q
    go false true q = clash refl q
    go false false q = refl
finish-own id r k t (taken h) = go (in_phase Waiting x) (in_phase Running x) h
  where
    x : Slot
    x = slot_of r.state id

    active : in_phase Free x ≡ false
    active = finish-used x.phase h

    go : (w u : Bool) → (w || u) ≡ true
        → seen id (record { state = with_slot r.state (place_of r.state id) (cond w (enter Draining x) free_slot); work = r.work }) ≡ cond w (enters Draining (seen id r)) (cond u idle (seen id r))
    go true u q = sees_entered r id k.slots active Draining refl
    go false true q = sees_free r id k.slots active
    go false false q = clash q refl

-- ---- the fresh state

pub fresh_ok : (w : List ℕ) → work_area ≤ length w → Ok (fresh_on w)
unfolding fresh_state shape plain_shape slots_fit slot_fits apart used_count used_bit bit is_phase code dead_fits held_shape
fresh_ok w l = ok-start (fresh_on w) (le-leb work_area (length w) l) refl refl

pub fresh-idle : (id : ℕ) (w : List ℕ) → seen id (fresh_on w) ≡ idle
unfolding seen idle fresh_state slot_at place_of first_slot is_id is_phase code
fresh-idle id w = refl
