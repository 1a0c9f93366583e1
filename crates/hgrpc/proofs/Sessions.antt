-- Sessions over bytes: the calls keep the numbers of a state within their fields, so that the state comes back from its bytes at every call, and
-- a list of calls over bytes comes to what the calls over the state come to; so does the count. Assumes nothing.
use Prim.Native.Nat.{ℕ, zero, suc, ◌≤◌, ◌<◌}
use mathlib.Core.Bool.{Bool, true, false, ◌&&◌, ◌||◌, cond}
use mathlib.Core.List.{List, [], ◌∷◌}
use mathlib.Core.Path.{◌≡◌, refl, sym, ap, ◌∙◌, subst}
use native.Mathlib.Omega.{arith}
use lib.ListN.{length, take, drop, get_or, set, length-set, replicate}
use lib.Dec.{leb, eqb}
use borrow.Author.Tests.{eqb-true, leb-true, le-leb, le-ltb}
use Rattle.buffer.specs.Bytes.{write}
use Rattle.frame.specs.Limits.{max_command, slot_count, stream_count, work_area}
use Rattle.frame.specs.Frame.{Frame, frame_of, is_type, is_last}
use Rattle.frame.specs.Header.{length_of, header_of}
use Rattle.requests.specs.declared.Slot.{Slot}
use Rattle.requests.specs.declared.Phase.TheVariants.{Waiting, Running, Draining}
use Rattle.requests.specs.Phases.{free_slot, can_finish}
use Rattle.requests.specs.Slots.{in_phase, enter, data_slot, finish_slot}
use Rattle.session.specs.Session.{Step, Feed, Reply, Call, feeds, owns, Outcome, fed, answered, read, feed, own, unchanged, wrote, after, session}
use Rattle.session.proofs.Laws as laws
use Rattle.rules.specs.Rules.{is_command}
use Rattle.rules.proofs.Bools.{and_r, by_cond}
use Rattle.channel.specs.declared.Channel.{Channel}
use Rattle.channel.specs.Receiver.{Receiver, slot_at, slot_of, place_of, target, placed, command_slot, slots_after, streams_after, refused, refused_work, accepted, put, take_byte, with_finished, finish_state, finish, fresh_state}
use Rattle.channel.specs.Channel.{dead_fits, finish_of, channel}
use Rattle.requests.proofs.UsedLaws.{at-most-all}
use Rattle.channel.proofs.SlotLaws.{each_fits}
use Rattle.channel.proofs.ReceiverLaws.{Ok, ok-plain, ok-shape, live-case, keeps}
use Rattle.demands.specs.History.{id_count}
use Rattle.demands.specs.Demands.{Fed, nil, bytes, ends, fresh_on}
use Rattle.demands.proofs.Demand3.{ok, own-finish, demand3}
use Rattle.demands.proofs.Demand2.{active-count}
use Rattle.demands.proofs.SeenLaws.{fresh_ok, short-slot}
use Rattle.demands.proofs.CutLaws.{small-request}
use Rattle.fields.specs.Laws.{AreBytes, AllFit}
use Rattle.status.specs.Row.{active_of}
use Rattle.layout.specs.State.{SlotFits, StateFits, encode}
use Rattle.hgrpc.specs.Calls.{Kept, kept, Answer, fed_answer, replied, feed_answer, finish_answer, active_answer}
use Rattle.status.specs.Row.{active_count}
use Rattle.hgrpc.specs.Laws.{Lent, lent, calls, in_bytes, Starts, AllSessions, FreshStarts, ActiveInBytes}
use Rattle.fields.proofs.FieldLaws.{bytes_drop}
use Rattle.layout.proofs.StateLaws.{back}

-- ---- bytes stay bytes

bytes_tail : (x : ℕ) (xs : List ℕ) → AreBytes (x ∷ xs) → AreBytes xs
bytes_tail x xs h = record { byte = λ i. h.byte (suc i) }

bytes_cons : (x : ℕ) (xs : List ℕ) → x < 256 → AreBytes xs → AreBytes (x ∷ xs)
bytes_cons x xs l h = record { byte = go }
  where
    go : (i : ℕ) → get_or (x ∷ xs) i 0 < 256
    go zero = l
    go (suc i) = h.byte i

bytes-set : (w : List ℕ) (i b : ℕ) → b < 256 → AreBytes w → AreBytes (set w i b)
bytes-set [] i b l h = h
bytes-set (x ∷ xs) zero b l h = bytes_cons b xs l (bytes_tail x xs h)
bytes-set (x ∷ xs) (suc i) b l h = bytes_cons x (set xs i b) (h.byte 0) (bytes-set xs i b l (bytes_tail x xs h))

bytes_take : (n : ℕ) (w : List ℕ) → AreBytes w → AreBytes (take n w)
bytes_take zero w h = record { byte = λ i. omega arith }
bytes_take (suc n) [] h = h
bytes_take (suc n) (x ∷ xs) h = bytes_cons x (take n xs) (h.byte 0) (bytes_take n xs (bytes_tail x xs h))

bytes-write : (w : List ℕ) (i : ℕ) (s : List ℕ) → AreBytes w → AreBytes s → AreBytes (write w i s)
unfolding write
bytes-write [] i s h k = h
bytes-write (x ∷ xs) (suc i) s h k = bytes_cons x (write xs i s) (h.byte 0) (bytes-write xs i s (bytes_tail x xs h) k)
bytes-write (x ∷ xs) zero [] h k = h
bytes-write (x ∷ xs) zero (b ∷ bs) h k = bytes_cons b (write xs zero bs) (k.byte 0) (bytes-write xs zero bs (bytes_tail x xs h) (bytes_tail b bs k))

payload-bytes : (w : List ℕ) → AreBytes w → AreBytes (frame_of w).payload
unfolding frame_of header_of
payload-bytes w h = bytes_take (length_of w) (drop 8 w) (bytes_drop 8 w h)

-- ---- what bytes and finishes keep: ids of two bytes, the count of streams, a work area of bytes

pub record Narrow (l : List Slot) : Type 0 where
  pub id : (i : ℕ) → (get_or l i free_slot).id < id_count

narrow_set : (l : List Slot) (i : ℕ) (x : Slot) → x.id < id_count → Narrow l → Narrow (set l i x)
narrow_set l i x h k = record { id = go l i k.id }
  where
    go : (l : List Slot) (i : ℕ) → ((j : ℕ) → (get_or l j free_slot).id < id_count) → (j : ℕ) → (get_or (set l i x) j free_slot).id < id_count
    go [] i k j = k j
    go (y ∷ ys) zero k zero = h
    go (y ∷ ys) zero k (suc j) = k (suc j)
    go (y ∷ ys) (suc i) k zero = k zero
    go (y ∷ ys) (suc i) k (suc j) = go ys i (λ n. k (suc n)) j

pub record Small (r : Receiver) : Type 0 where
  pub ids : Narrow r.state.slots
  pub streams : length r.state.streams ≡ stream_count
  pub work : AreBytes r.work

module _ (s : Channel) (f : Frame) (w : List ℕ) (b : AreBytes w) (p : AreBytes f.payload) where
  placed-bytes : AreBytes (placed s f w)
  unfolding placed
  placed-bytes = bytes-write w _ f.payload b p

  refused-bytes : (n : ℕ) → AreBytes (refused_work n s f w)
  unfolding refused_work
  refused-bytes n = by_cond AreBytes (leb 24 n && leb n 26) (placed s f w) w (λ _. placed-bytes) (λ _. b)

  accepted-bytes : AreBytes (cond (is_command f) (placed s f w) w)
  accepted-bytes = by_cond AreBytes (is_command f) (placed s f w) w (λ _. placed-bytes) (λ _. b)

abbrev Below : Slot → Type 0
Below x = x.id < id_count

data_id : (x : Slot) (f : Frame) → Below x → Below (data_slot x f)
unfolding data_slot enter
data_id x f h =
    by_cond Below (is_last f) (cond (in_phase Draining x) free_slot (enter Running x)) x
    (λ _. by_cond Below (in_phase Draining x) free_slot (enter Running x) (λ _. omega arith) (λ _. h)) (λ _. h)

finish-id : (x : Slot) → Below x → Below (finish_slot x)
unfolding finish_slot enter
finish-id x h = by_cond Below (in_phase Waiting x) (enter Draining x) free_slot (λ _. h) (λ _. omega arith)

slots_narrow : (s : Channel) (f : Frame) → f.request < id_count → Narrow s.slots → Narrow (slots_after s f)
unfolding slots_after command_slot slot_at
slots_narrow s f l k =
    by_cond Narrow (is_command f) (set s.slots (target s f) (command_slot s f))
    (cond (is_type 2 f) (set s.slots (place_of s f.request) (data_slot (slot_of s f.request) f)) s.slots)
    (λ _. narrow_set s.slots (target s f) (command_slot s f) l k)
    (λ _. by_cond Narrow (is_type 2 f) (set s.slots (place_of s f.request) (data_slot (slot_of s f.request) f)) s.slots
    (λ _. narrow_set s.slots (place_of s f.request) (data_slot (slot_of s f.request) f) (data_id (slot_of s f.request) f (k.id (place_of s f.request))) k)
    (λ _. k))

module _ (r : Receiver) (b : ℕ) (l : b < 256) (k : Small r) where
  w : List ℕ
  w = (put r b).work

  put-bytes : AreBytes w
  unfolding w put
  put-bytes = bytes-set r.work r.state.pending b l k.work

  payload : AreBytes (frame_of w).payload
  payload = payload-bytes w put-bytes

  abbrev Stays : Step Receiver → Type 0
  Stays t = Small t.next

  pub take-small : Small (take_byte r b).next
  unfolding take_byte put refused accepted streams_after w
  take-small = go r.state.dead refl
    where
      go : (n : ℕ) → r.state.dead ≡ n → Small (take_byte r b).next
      go zero d =
          live-case r b Stays d
          (record { ids = k.ids; streams = k.streams; work = put-bytes })
          (λ a h. record { ids = k.ids; streams = k.streams; work = put-bytes })
          (λ a h e. record {
            ids = slots_narrow (put r b).state (frame_of w) (small-request w put-bytes.byte) k.ids;
            streams = length-set r.state.streams _ _ ∙ k.streams;
            work = accepted-bytes (put r b).state (frame_of w) w put-bytes payload;
          })
          (λ n a h e. record { ids = k.ids; streams = k.streams; work = refused-bytes (put r b).state (frame_of w) w put-bytes payload (suc n) })
      go (suc n) d = rw (d, take_byte) k

finish-small : (r : Receiver) (id : ℕ) → Small r → Small (finish r id).next
unfolding finish finish_state with_finished slot_at
finish-small r id k = go r.state.dead (can_finish (slot_of r.state id).phase) refl refl
  where
    go : (n : ℕ) (t : Bool) → r.state.dead ≡ n → can_finish (slot_of r.state id).phase ≡ t → Small (finish r id).next
    go zero true d t =
        let i = place_of r.state id in
        let x = slot_of r.state id in
        rw (d, t, finish_state) (record { ids = narrow_set r.state.slots i (finish_slot x) (finish-id x (k.ids.id i)) k.ids; streams = k.streams; work = k.work })
    go zero false d t = rw (d, t, finish_state) k
    go (suc n) t d l = rw (d, finish_state) k

read_small : (r : Receiver) (room : ℕ) (input : List ℕ) → AreBytes input → Small r → Small (read channel r room input).next
unfolding after
read_small =
    laws.read-case channel (λ r room input g. AreBytes input → Small r → Small g.next)
    (λ r room h k. k)
    (λ r room b bs e h k. k)
    (λ r room b bs n e d h k. take-small r b (h.byte 0) k)
    (λ r room b bs g e d ih h k. ih (bytes_tail b bs h) (take-small r b (h.byte 0) k))

feed-small : (r : Receiver) (input out : List ℕ) → AreBytes input → Small r → Small (feed channel r input out).next
unfolding unchanged wrote
feed-small r input out h k = go (feed channel r input out) (laws.feed_cases channel r input out)
  where
    go : (f : Feed Receiver) → laws.Fed channel r input out f → Small f.next
    go f (laws.still n) = k
    go f laws.reads = read_small r (length out) input h k

-- ---- so the numbers fit their fields

dead_narrow : (n : ℕ) → dead_fits n ≡ true → n < 256
unfolding dead_fits
dead_narrow n e = go (eqb n 0) refl e
  where
    go : (t : Bool) → eqb n 0 ≡ t → (t || leb 11 n && leb n 29) ≡ true → n < 256
    go true q h = let z : n ≡ 0 = eqb-true n 0 q in omega arith
    go false q h = let l : n ≤ 29 = leb-true n 29 (and_r (leb 11 n) (leb n 29) h) in omega arith

slots_in : (l : List Slot) → ((i : ℕ) → SlotFits (get_or l i free_slot)) → AllFit SlotFits l
slots_in [] h = tt
slots_in (x ∷ xs) h = (h 0, slots_in xs (λ i. h (suc i)))

state-fits : (r : Receiver) → Ok r → Small r → StateFits r.state
state-fits r o k = record {
  dead = dead_narrow r.state.dead o.dead;
  pending = omega (arith, o.pending);
  slot_count = o.count;
  slots = slots_in r.state.slots (λ i. record { id = k.ids.id i; length = short i });
  stream_count = k.streams;
  active = omega (arith, o.active, o.count, at-most-all r.state.slots);
}
  where
    short : (i : ℕ) → (get_or r.state.slots i free_slot).length < 65536
    short i = let l : (get_or r.state.slots i free_slot).length ≤ max_command = short-slot (get_or r.state.slots i free_slot) (each_fits r.state.slots i o.slots) in omega arith

-- ---- and a call over the state's bytes answers what the call over the state answers

module _ (r : Receiver) (o : Ok r) (k : Small r) where
  feed-is : (input out : List ℕ) → feed_answer (encode r.state) r.work input out ≡ fed_answer (feed channel r input out)
  unfolding feed_answer
  feed-is input out = rw (le-ltb (length r.work) work_area o.work, back r.state (state-fits r o k))

  decoded : (id : ℕ) → finish_answer (encode r.state) id ≡ replied (finish_of r.state id)
  unfolding finish_answer
  decoded id = rw (back r.state (state-fits r o k))

  own_is : (id : ℕ) → own channel r id ≡ finish r id
  own_is id = laws.own_is channel keeps r id o

  finish-is : (id : ℕ) → finish_answer (encode r.state) id ≡ kept (finish r id).number (encode (finish r id).next.state)
  finish-is id = decoded id ∙ ap (λ (a : Reply Receiver). kept a.number (encode a.next.state)) (sym (own-finish r id) ∙ own_is id)

feed-ok : (r : Receiver) (input out : List ℕ) → Ok r → Ok (feed channel r input out).next
unfolding session fed
feed-ok r input out o = laws.session-keeps channel keeps r o (feeds input out ∷ [])

alike : (r : Receiver) → Ok r → Small r → (cs : List Call) → Fed cs → calls (lent r) cs ≡ in_bytes (session channel r cs)
unfolding calls session fed answered finish
alike r o k [] nil = refl
alike r o k (feeds input out ∷ cs) (bytes h more) =
    let f = feed channel r input out in
    ap (λ (a : Answer). fed (take a.written a.output) (calls (record { state = a.state; work = a.work }) cs)) (feed-is r o k input out)
    ∙ ap (fed (take f.written f.output)) (alike f.next (feed-ok r input out o) (feed-small r input out (record { byte = h }) k) cs more)
alike r o k (owns id ∷ cs) (ends more) =
    let a = finish r id in
    ap (λ (x : Kept). answered x.number (calls (record { state = x.bytes; work = r.work }) cs)) (finish-is r o k id)
    ∙ ap (answered a.number) (alike a.next (keeps.call r id o) (finish-small r id k) cs more)
    ∙ ap (λ (x : Reply Receiver). in_bytes (answered x.number (session channel x.next cs))) (sym (own_is r o k id))

-- ---- the claims

ids_in : (l : List Slot) → AllFit SlotFits l → (i : ℕ) → (get_or l i free_slot).id < id_count
ids_in [] h i = omega arith
ids_in (x ∷ xs) h zero = h.0.id
ids_in (x ∷ xs) h (suc i) = ids_in xs h.1 i

starts_small : (r : Receiver) → Starts r → Small r
starts_small r s = record { ids = record { id = ids_in r.state.slots s.fits.slots }; streams = s.fits.stream_count; work = s.bytes }

pub all-sessions : AllSessions
all-sessions r s cs h =
    let e = alike r (ok r s.sound) (starts_small r s) cs h in
    record { session = e; uncut = e ∙ ap in_bytes (demand3 r s.sound cs).outcome }

session-small : (r : Receiver) → Ok r → Small r → (cs : List Call) → Fed cs → Small (session channel r cs).end
unfolding session fed answered finish
session-small r o k [] nil = k
session-small r o k (feeds input out ∷ cs) (bytes h more) =
    session-small (feed channel r input out).next (feed-ok r input out o) (feed-small r input out (record { byte = h }) k) cs more
session-small r o k (owns id ∷ cs) (ends more) =
    subst (λ (a : Reply Receiver). Small (session channel a.next cs).end) (sym (own_is r o k id))
    (session-small (finish r id).next (keeps.call r id o) (finish-small r id k) cs more)

free_narrow : (n i : ℕ) → (get_or (replicate n free_slot) i free_slot).id < id_count
free_narrow zero i = omega arith
free_narrow (suc n) zero = omega arith
free_narrow (suc n) (suc i) = free_narrow n i

pub fresh_starts : FreshStarts
unfolding fresh_state
fresh_starts w l h =
    let k = fresh_ok w l in
    let m : Small (fresh_on w) = record { ids = record { id = free_narrow slot_count }; streams = refl; work = h } in
    record { sound = record { roomy = le-leb work_area (length w) l; slots = k.count; shaped = ok-shape (fresh_on w) k }; fits = state-fits (fresh_on w) k m; bytes = h }

-- the count of a state that the calls came to
active-is : (r : Receiver) → Ok r → Small r → active_answer (encode r.state) ≡ active_count 0 r.state.active
unfolding active_answer active_of
active-is r o k = rw (back r.state (state-fits r o k), ok-plain r o)

pub active-in_bytes : ActiveInBytes
active-in_bytes w l h cs q =
    let s = fresh_starts w l h in
    let o = ok (fresh_on w) s.sound in
    let m = starts_small (fresh_on w) s in
    let r = (session channel (fresh_on w) cs).end in
    let e : active_answer (calls (lent (fresh_on w)) cs).end.state ≡ active_count 0 r.state.active =
    ap (λ (x : Outcome Lent). active_answer x.end.state) (all-sessions (fresh_on w) s cs q).session
    ∙ active-is r (laws.session-keeps channel keeps (fresh_on w) o cs) (session-small (fresh_on w) o m cs q) in
    rw e (refl, active-count w l cs q)
