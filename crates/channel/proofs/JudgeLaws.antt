-- What the code answers for a whole frame, stage by stage, is what the receiver's judge answers.
-- Assumes nothing.
use Prim.Native.Nat.{ℕ, zero, suc, ◌+◌, ◌≤◌, ◌<◌}
use mathlib.Core.Path.{◌≡◌, refl, sym, ap, ◌∙◌}
use mathlib.Core.Bool.{true, false, ◌&&◌, cond}
use mathlib.Core.List.{List, []}
use native.Mathlib.Omega.{arith}
use lib.ListN.{length, take, drop, set, length-drop}
use lib.Seq.{length-take-le}
use lib.Dec.{leb}
use borrow.Author.Tests.{eq-eqb, ne_eqb, leb-true, le-leb}
use Rattle.buffer.specs.Bytes.{write}
use Rattle.buffer.proofs.WriteLaws.{own-part, write-none}
use Rattle.requests.specs.declared.Phase.TheVariants.{Free, Waiting}
use Rattle.requests.specs.declared.Slot.{Slot}
use Rattle.frame.specs.declared.Header.{Header}
use Rattle.frame.specs.Limits.{max_command, slot_count, part_start}
use Rattle.frame.specs.Header.{length_of, header_of}
use Rattle.frame.specs.Frame.{Frame, framed, frame_of, begins, ends, is_type, is_new, is_more, data_follows, is_last, flags_fit}
use Rattle.frame.specs.Records.{bit, request_record}
use Rattle.rules.specs.declared.Met.{Met}
use Rattle.rules.specs.Rules.{View, is_command, check_of, rules, first_broken, command_byte, record_with}
use Rattle.rules.specs.Stages.{viewed, head_rules, last_rules}
use Rattle.rules.proofs.Bools.{and_l, and_r, and_i, fails}
use Rattle.rules.proofs.RuleLaws.{passed, in_range}
use Rattle.rules.proofs.StageLaws.{no_other, rest_more, rest-whole, rest-other, all_head, all_rest, check_range}
use Rattle.session.specs.Session.{Feed}
use Rattle.channel.specs.declared.Channel.{Channel}
use Rattle.requests.specs.Slots.{in_phase, first_slot, is_id, collected, data_slot}
use Rattle.channel.specs.Receiver.{Receiver, with_slot, slot_at, place_of, lowest_free, target, command_length, command, placed, stream_open, view_of, refused, refused_work, command_slot, slots_after, streams_after, accepted, judge}
use Rattle.channel.specs.Channel.{fed_with}
use Rattle.channel.specs.Steps.{put_from, stepped, judged_into, met_of, HasFrame, Passed, refused_with, accepted_with}
use Rattle.channel.proofs.ReceiverLaws.{room_of}

-- the places of a frame's request and of its command's slot; as many as there are slots where it has none
abbrev pub place_in : Channel → Header → ℕ
place_in s h = first_slot (is_id h.request) s.slots

abbrev pub target_in : Channel → Header → ℕ
target_in s h = cond (is_new (framed h [])) (first_slot (in_phase Free) s.slots) (place_in s h)

-- what a frame that rules 12 to 23 let pass meets, and its number, by the header in the work area
module _ {s : Channel} {h : Header} {m : Met} {w : List ℕ} (p : Passed s h m w) where
  pub met-same : m ≡ met_of s (header_of w)
  met-same = p.met ∙ ap (met_of s) p.header

  pub passes_same : first_broken head_rules (framed (header_of w) []) (viewed (met_of s (header_of w)) (header_of w) []) ≡ 0
  passes_same = rw (met-same, p.header) at p.passes

-- the work area that a refusal leaves
module _ (s : Channel) (f : Frame) (w : List ℕ) where
  pub is-left : (n : ℕ) → (24 ≤ n → n ≤ 26 → ⊥) → refused_work n s f w ≡ w
  unfolding refused_work
  is-left n o = rw (fails (leb 24 n && leb n 26) (λ t. o (leb-true 24 n (and_l (leb 24 n) (leb n 26) t)) (leb-true n 26 (and_r (leb 24 n) (leb n 26) t))))

  pub is-placed : (n : ℕ) → 24 ≤ n → n ≤ 26 → refused_work n s f w ≡ placed s f w
  unfolding refused_work
  is-placed n a b = rw (and_i (leb 24 n) (leb n 26) (le-leb 24 n a) (le-leb n 26 b))

module _ {s : Channel} {w : List ℕ} (g : HasFrame s w) (count : length s.slots ≡ slot_count) (out : List ℕ) (done : ℕ) where
  abbrev h : Header
  h = header_of w

  abbrev m : Met
  m = met_of s h

  abbrev f : Frame
  f = frame_of w

  abbrev v : View
  v = view_of s f w

  abbrev head-number : ℕ
  head-number = first_broken head_rules (framed h []) (viewed m h [])

  abbrev payload : List ℕ
  payload = take h.length (drop 8 w)

  abbrev at : ℕ
  at = part_start (target_in s h) + m.held

  abbrev placed_in : List ℕ
  placed_in = write w at payload

  abbrev size : ℕ
  size = m.held + h.length

  abbrev goal : Feed Receiver
  goal = judged_into out done s w

  -- the work area holds the whole payload
  payload-length : length payload ≡ h.length
  unfolding header_of
  payload-length = length-take-le (length_of w) (drop 8 w) (omega (arith, length-drop 8 w))

  pub view_same : viewed m h (command s f w) ≡ view_of s f w
  unfolding view_of frame_of stream_open place_of lowest_free slot_at target command_length is_new header_of
  view_same = rw payload-length

  pub head-same : head-number ≡ first_broken head_rules f (view_of s f w)
  unfolding rules first_broken frame_of begins is_type is_new data_follows flags_fit is_command
  head-same = ap (first_broken head_rules f) view_same

  -- ---- the judge, by the first broken rule

  judged-zero : first_broken rules f v ≡ 0 → goal ≡ put_from out done (stepped (accepted s f w))
  unfolding judge
  judged-zero e = rw (e, judge)

  judged-suc : (n : ℕ) (work : List ℕ) → first_broken rules f v ≡ n → (n ≡ 0 → ⊥) → refused_work n s f w ≡ work → goal ≡ fed_with (refused_with s n) work out
  unfolding judge refused
  judged-suc zero work e o q = absurd (o refl)
  judged-suc (suc n) work e o q = rw (e, judge) (rw (q, write-none out done))

  pub answers-head : (n : ℕ) → head-number ≡ n → (n ≡ 0 → ⊥) → goal ≡ fed_with (refused_with s n) w out
  answers-head n e o =
      let (a, b) = all_head f v n (sym head-same ∙ e) o in
      judged-suc n w a o (is-left s f w n (omega (arith, b)))

  -- ---- a frame that rules 12 to 23 let pass

  size_same : command_length s f ≡ size
  unfolding command_length place_of lowest_free slot_at target frame_of is_new header_of
  size_same = rw payload-length

  accepts : (i : ℕ) (x : Slot) (work new : List ℕ) → first_broken rules f v ≡ 0 → slots_after s f ≡ set s.slots i x → cond (is_command f) (placed s f w) w ≡ work → record_with f v ≡ new
      → goal ≡ fed_with (accepted_with (with_slot s i x) h (length new)) work (write out done new)
  unfolding accepted streams_after frame_of ends
  accepts i x work new z a b c = judged-zero z ∙ rw (a, b, c, g.live)

  module _ (e : head-number ≡ 0) where
    rest : first_broken rules f v ≡ first_broken (drop 12 rules) f v
    rest = all_rest f v (sym head-same ∙ e)

    -- ---- a command frame

    module _ (k : h.kind ≡ 1) where
      is-command : is_command f ≡ true
      unfolding is_command is_type frame_of
      is-command = eq-eqb h.kind 1 k

      pub has_room : (target_in s h < slot_count) × (size ≤ max_command)
      unfolding rules place_of lowest_free target frame_of is_new
      has_room =
          let e' : first_broken head_rules f v ≡ 0 = sym head-same ∙ e in
          let (a, b) = room_of s f w count (passed f v head_rules 20 0 refl e') (passed f v head_rules 21 0 refl e') (passed f v head_rules 23 0 refl e') is-command in
          (a, rw (← size_same) b)

      pub read_back : take size (drop (part_start (target_in s h)) placed_in) ≡ command s f w
      unfolding command place_of lowest_free slot_at target frame_of is_new header_of
      read_back =
          let (a, b) = has_room in
          ap (λ (n : ℕ). take (m.held + n) (drop (part_start (target_in s h)) placed_in)) (sym payload-length)
          ∙ own-part w (part_start (target_in s h)) m.held payload (omega (arith, payload-length))

      accepts-command : (new : List ℕ) → first_broken rules f v ≡ 0 → record_with f v ≡ new
          → goal ≡ fed_with (accepted_with (with_slot s (target_in s h) (collected (framed h []) size)) h (length new)) placed_in (write out done new)
      unfolding slots_after command_slot placed place_of lowest_free slot_at target frame_of is_new is_more data_follows header_of
      accepts-command new z = accepts (target_in s h) (collected (framed h []) size) placed_in new z slots_same work-same
        where
          slots_same : slots_after s f ≡ set s.slots (target_in s h) (collected (framed h []) size)
          slots_same = rw (is-command, size_same)

          work-same : cond (is_command f) (placed s f w) w ≡ placed_in
          work-same = rw is-command

      pub answers-more : is_more (framed h []) ≡ true → goal ≡ fed_with (accepted_with (with_slot s (target_in s h) (collected (framed h []) size)) h 0) placed_in out
      unfolding is_more frame_of record_with
      answers-more q = accepts-command [] (rest ∙ rest_more f v is-command q) (rw (is-command, q, no_other f 2 refl is-command)) ∙ rw (write-none out done)

      module _ (q : is_more (framed h []) ≡ false) where
        all_check : first_broken rules f v ≡ check_of (command s f w)
        unfolding is_more frame_of view_of
        all_check = rest ∙ rest-whole f v is-command q

        pub answers-refused : (n : ℕ) → check_of (command s f w) ≡ n → (n ≡ 0 → ⊥) → goal ≡ fed_with (refused_with s n) placed_in out
        unfolding placed place_of lowest_free slot_at target frame_of is_new header_of
        answers-refused n c o =
            let (a, b) = check_range (command s f w) n c o in
            judged-suc n placed_in (all_check ∙ c) o (is-placed s f w n a b)

        pub answers-command : check_of (command s f w) ≡ 0 → let new = request_record 1 h.request (command_byte (data_follows (framed h [])) (command s f w)) (command s f w) in
            goal ≡ fed_with (accepted_with (with_slot s (target_in s h) (collected (framed h []) size)) h (length new)) placed_in (write out done new)
        unfolding is_more frame_of record_with data_follows view_of
        answers-command c = accepts-command (request_record 1 h.request (command_byte (data_follows (framed h [])) (command s f w)) (command s f w)) (all_check ∙ c) (rw (is-command, q))

    -- ---- data or settings

    module _ (o : h.kind ≡ 1 → ⊥) where
      abbrev number : ℕ
      number = first_broken last_rules (framed h payload) (viewed m h [])

      no_command : is_command f ≡ false
      unfolding is_command is_type frame_of
      no_command = ne_eqb h.kind 1 o

      all-last : first_broken rules f v ≡ number
      unfolding rules first_broken view_of place_of slot_at frame_of header_of
      all-last = rest ∙ rest-other f v no_command

      pub answers-last : (n : ℕ) → number ≡ n → (n ≡ 0 → ⊥) → goal ≡ fed_with (refused_with s n) w out
      unfolding rules
      answers-last n q p = judged-suc n w (all-last ∙ q) p (is-left s f w n (above n q p))
        where
          above : (n : ℕ) → number ≡ n → (n ≡ 0 → ⊥) → 24 ≤ n → n ≤ 26 → ⊥
          above zero q p a b = p refl
          above (suc n) q p a b = let (c, d) = in_range (framed h payload) (viewed m h []) last_rules 27 29 n refl q in omega arith

      work-stays : cond (is_command f) (placed s f w) w ≡ w
      work-stays = rw no_command

      -- data, by the record that it gives
      is_data : h.kind ≡ 2 → is_type 2 f ≡ true
      unfolding is_type frame_of
      is_data k = eq-eqb h.kind 2 k

      takes_data_lem : (new : List ℕ) → number ≡ 0 → h.kind ≡ 2 → record_with f v ≡ new
          → goal ≡ fed_with (accepted_with (with_slot s (place_in s h) (data_slot (slot_at s (place_in s h)) (framed h []))) h (length new)) w (write out done new)
      unfolding slots_after data_slot place_of slot_at frame_of is_last header_of
      takes_data_lem new z k = accepts (place_in s h) (data_slot (slot_at s (place_in s h)) (framed h [])) w new (all-last ∙ z) (rw (no_command, is_data k)) work-stays

      pub answers_data : number ≡ 0 → h.kind ≡ 2 → in_phase Waiting (slot_at s (place_in s h)) ≡ true → let new = request_record 2 h.request (bit (is_last (framed h []))) payload in
          goal ≡ fed_with (accepted_with (with_slot s (place_in s h) (data_slot (slot_at s (place_in s h)) (framed h []))) h (length new)) w (write out done new)
      unfolding record_with view_of place_of slot_at frame_of is_last header_of
      answers_data z k waits = takes_data_lem (request_record 2 h.request (bit (is_last (framed h []))) payload) z k (rw (no_command, is_data k, waits))

      -- of a request that does not wait, though rule 27 lets it pass
      pub answers_drain : number ≡ 0 → h.kind ≡ 2 → in_phase Waiting (slot_at s (place_in s h)) ≡ false
          → goal ≡ fed_with (accepted_with (with_slot s (place_in s h) (data_slot (slot_at s (place_in s h)) (framed h []))) h 0) w out
      unfolding record_with view_of place_of slot_at frame_of header_of
      answers_drain z k drains = takes_data_lem [] z k (rw (no_command, is_data k, drains)) ∙ rw (write-none out done)

      pub answers_settings : number ≡ 0 → (h.kind ≡ 2 → ⊥) → goal ≡ fed_with (accepted_with s h 0) w out
      unfolding slots_after record_with is_type frame_of accepted streams_after ends
      answers_settings z k = judged-zero (all-last ∙ z) ∙ rw (slots_same, work-stays, new-same, g.live) (rw (sym g.active) (rw (write-none out done)))
        where
          no_data : is_type 2 f ≡ false
          no_data = ne_eqb h.kind 2 k

          slots_same : slots_after s f ≡ s.slots
          slots_same = rw (no_command, no_data)

          new-same : record_with f v ≡ []
          new-same = rw (no_command, no_data)
