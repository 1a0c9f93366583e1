-- The states that a message leads through: the start's, with the request's slot at the lowest free place and the stream open or closed.
-- No slot of the start has the request's id, so a search for it ends at that place. Assumes nothing.
use Prim.Native.Nat.{ℕ, suc, ◌/◌, ◌≤◌, ◌<◌}
use mathlib.Core.Path.{◌≡◌, refl, sym, ap, ◌∙◌}
use mathlib.Core.Bool.{Bool, true, false, cond, ◌&&◌, ◌||◌, not, beq}
use mathlib.Core.List.{List, [], ◌∷◌}
use native.Mathlib.Omega.{arith}
use lib.ListN.{length, take, drop, get_or, set}
use lib.Seq.{get_or-set_same, set-set}
use lib.Dec.{leb}
use borrow.Author.Tests.{lt-leb}
use Rattle.frame.specs.Limits.{slot_count, stream_count, part_start}
use Rattle.frame.specs.Frame.{Frame, is_even, is_new}
use Rattle.requests.specs.declared.Phase.{Phase}
use Rattle.requests.specs.declared.Phase.TheVariants.{Free, Collecting}
use Rattle.requests.specs.declared.Slot.{Slot}
use Rattle.requests.specs.Phases.{is_phase, code}
use Rattle.requests.specs.Slots.{is_id, first_slot, id_in, slots_fit}
use Rattle.rules.proofs.Bools.{clash}
use Rattle.channel.specs.declared.Channel.{Channel}
use Rattle.channel.specs.Receiver.{Receiver, with_pending, with_slots, with_streams, with_slot, slot_at, place_of, slot_of, lowest_free, target}
use Rattle.channel.proofs.SlotLaws.{each_fits, of_id, none-there}
use Rattle.demands.proofs.PlaceLaws.{placed_at}
use Rattle.demands.proofs.SeenLaws.{free_empty, lowest_is-free}
use Rattle.sender.specs.declared.Wishes.{Wishes}
use Rattle.sender.specs.Send.{max_size}

-- the slot of the message's request
abbrev pub slot_in : Wishes → Phase → Bool → ℕ → Slot
slot_in how phase with-data n = record { id = how.request; phase = phase; databit = with-data; length = n }

-- the start's state with a slot at the lowest free place, and the stream open or closed
abbrev pub state_with : Wishes → Channel → Slot → Bool → Channel
state_with how s x is_open = with_streams (with_slot s (lowest_free s) x) (set s.streams (how.stream / 2) is_open)

-- but for its slots and streams a state is the start's
pub record Alike (s t : Channel) : Type 0 where
  pub rest : (xs : List Slot) (bs : List Bool) → with_streams (with_slots t xs) bs ≡ with_streams (with_slots s xs) bs

-- the state that such a one becomes by a frame, between frames
pub alike_next : (how : Wishes) (s t : Channel) (x : Slot) (is_open : Bool) (xs : List Slot) (bs : List Bool) → s.pending ≡ 0 → Alike s t
    → xs ≡ set s.slots (lowest_free s) x → bs ≡ set s.streams (how.stream / 2) is_open → with_streams (with_slots (with_pending t 0) xs) bs ≡ state_with how s x is_open
alike_next how s t x is_open xs bs none a xs-is bs-is =
    ap (λ (u : Channel). with_pending u 0) (a.rest xs bs) ∙ rw (xs-is, bs-is) (ap (with_pending (state_with how s x is_open)) (sym none))

-- where no slot has the id, a search for it goes through all of them
absent : (id : ℕ) (xs : List Slot) → id_in id xs ≡ false → first_slot (is_id id) xs ≡ length xs
unfolding id_in first_slot
absent id [] e = refl
absent id (x ∷ xs) e = go (is_id id x) e (absent id xs)
  where
    go : (c : Bool) → (c || id_in id xs) ≡ false → (id_in id xs ≡ false → first_slot (is_id id) xs ≡ length xs) → cond c 0 (suc (first_slot (is_id id) xs)) ≡ suc (length xs)
    go true h ih = clash refl h
    go false h ih = ap suc (ih h)

-- numbers that are sent: odd ids that fit, and a size that may be wished
pub record Sendable (how : Wishes) : Type 0 where
  pub odd-request : is_even how.request ≡ false
  pub odd-stream : is_even how.stream ≡ false
  pub request : how.request < 65536
  pub stream : how.stream < 256
  pub some : 0 < how.size
  pub most : how.size ≤ max_size

-- the state that a message starts from
pub record Start (how : Wishes) (s : Channel) : Type 0 where
  pub live : s.dead ≡ 0
  pub between : s.pending ≡ 0
  pub count : length s.slots ≡ slot_count
  pub fit : slots_fit s.slots ≡ true
  pub inactive : id_in how.request s.slots ≡ false
  pub free : lowest_free s < length s.slots
  pub streams : length s.streams ≡ stream_count
  pub stream : get_or s.streams (how.stream / 2) false ≡ not how.begin

-- what a command frame meets, the first or a later one: the start's slots and streams but for its own, and the bytes so far in its slot's part
pub record Meets (how : Wishes) (s : Channel) (with-data first : Bool) (bytes : List ℕ) (r : Receiver) : Type 0 where
  pub place : (f : Frame) → f.request ≡ how.request → is_new f ≡ first → target r.state f ≡ lowest_free s
  pub long : (slot_at r.state (lowest_free s)).length ≡ length bytes
  pub part : take (length bytes) (drop (part_start (lowest_free s)) r.work) ≡ bytes
  pub phase : (slot_of r.state how.request).phase ≡ cond first Free Collecting
  pub bit : (not first && not (beq with-data (slot_of r.state how.request).databit)) ≡ false
  pub full : (first && leb (length r.state.slots) (lowest_free r.state)) ≡ false
  pub slots : (x : Slot) → set r.state.slots (lowest_free s) x ≡ set s.slots (lowest_free s) x
  pub streams : (b : Bool) → set r.state.streams (how.stream / 2) b ≡ set s.streams (how.stream / 2) b
  pub is_open : get_or r.state.streams (how.stream / 2) false ≡ not (first && how.begin)
  pub alike : Alike s r.state

same_bit : (b : Bool) → not (beq b b) ≡ false
same_bit true = refl
same_bit false = refl

-- what the first command frame meets
pub meets-first : (how : Wishes) (r : Receiver) → Start how r.state → (with-data : Bool) → Meets how r.state with-data true [] r
unfolding target slot_at place_of
meets-first how r y with-data =
    let s : Channel = r.state in
    record {
      place = λ f q n. rw n;
      long = free_empty (slot_at s (lowest_free s)) (each_fits s.slots (lowest_free s) y.fit) (lowest_is-free s);
      part = refl;
      phase = ap (λ (x : Slot). x.phase) (none-there how.request s.slots y.inactive);
      bit = refl;
      full = lt-leb (length s.slots) (lowest_free s) y.free;
      slots = λ x. refl;
      streams = λ b. refl;
      is_open = y.stream;
      alike = record { rest = λ xs bs. refl };
    }

-- a state on the way
module _ (how : Wishes) (h : Sendable how) where
  module _ (s : Channel) (y : Start how s) (r : Receiver) (phase : Phase) (with-data : Bool) (n : ℕ) (used : is_phase Free phase ≡ false) (is_open : Bool)
      (e : r.state ≡ state_with how s (slot_in how phase with-data n) is_open) where
    abbrev x : Slot
    x = slot_in how phase with-data n

    there : (place_of (state_with how s x is_open) how.request ≡ lowest_free s) × (slot_at (state_with how s x is_open) (lowest_free s) ≡ x)
    unfolding place_of slot_at
    there =
        placed_at (is_id how.request) s.slots (lowest_free s) x (omega (arith, absent how.request s.slots y.inactive, y.free)) y.free
        (of_id x used)

    pub place_is : place_of r.state how.request ≡ lowest_free s
    place_is = rw e there.0

    pub at_place : slot_at r.state (lowest_free s) ≡ x
    at_place = rw e there.1

    pub slot_is : slot_of r.state how.request ≡ x
    slot_is = rw place_is at_place

    pub slots_set : (z : Slot) → set r.state.slots (lowest_free s) z ≡ set s.slots (lowest_free s) z
    slots_set z = rw e (set-set s.slots (lowest_free s) x z)

    pub alike : Alike s r.state
    alike = record { rest = λ xs bs. ap (λ (t : Channel). with_streams (with_slots t xs) bs) e }

    pub streams-set : (b : Bool) → set r.state.streams (how.stream / 2) b ≡ set s.streams (how.stream / 2) b
    streams-set b = rw e (set-set s.streams (how.stream / 2) is_open b)

    pub stream-is : get_or r.state.streams (how.stream / 2) false ≡ is_open
    stream-is = rw e (get_or-set_same s.streams (how.stream / 2) is_open false (omega (arith, h.stream, y.streams)))

  -- what a later command frame meets
  pub meets-later : (s : Channel) → Start how s → (r : Receiver) (with-data : Bool) (bytes : List ℕ)
      → r.state ≡ state_with how s (slot_in how Collecting with-data (length bytes)) true → take (length bytes) (drop (part_start (lowest_free s)) r.work) ≡ bytes
      → Meets how s with-data false bytes r
  unfolding target is_phase code
  meets-later s y r with-data bytes e p =
      let mine : slot_of r.state how.request ≡ slot_in how Collecting with-data (length bytes) = slot_is s y r Collecting with-data (length bytes) refl true e in
      record {
        place = λ f q n. rw (n, q) (place_is s y r Collecting with-data (length bytes) refl true e);
        long = ap (λ (x : Slot). x.length) (at_place s y r Collecting with-data (length bytes) refl true e);
        part = p;
        phase = ap (λ (x : Slot). x.phase) mine;
        bit = rw mine (same_bit with-data);
        full = refl;
        slots = slots_set s y r Collecting with-data (length bytes) refl true e;
        streams = streams-set s y r Collecting with-data (length bytes) refl true e;
        is_open = stream-is s y r Collecting with-data (length bytes) refl true e;
        alike = alike s y r Collecting with-data (length bytes) refl true e;
      }
