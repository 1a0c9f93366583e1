-- A receiver whose tables say what the history says judges a frame as the history does, and still does after it. Assumes nothing.
use Prim.Native.Nat.{ℕ, ◌+◌, ◌/◌, ◌%◌, ◌≤◌, ◌<◌}
use mathlib.Core.Path.{◌≡◌, refl, sym, ap, ◌∙◌, subst}
use mathlib.Core.Bool.{Bool, true, false, ◌&&◌, ◌||◌, not, cond, true≢false, false≢true, beq}
use mathlib.Core.List.{List, [], ◌∷◌, ◌++◌}
use native.Mathlib.Omega.{arith}
use lib.ListN.{length, take, drop, get_or, set, length-append, length-take, length-drop, length-set}
use lib.Seq.{get_or-set_same, get_or-set_other}
use lib.Dec.{leb, ltb, eqb}
use borrow.Author.Tests.{eqb-true, eqb-false, eq-eqb}
use Rattle.requests.specs.declared.Phase.{Phase}
use Rattle.requests.specs.declared.Phase.TheVariants.{Free, Collecting, Waiting, Running, Draining}
use Rattle.requests.specs.declared.Slot.{Slot}
use Rattle.channel.specs.declared.Channel.{Channel}
use Rattle.frame.specs.Limits.{max_command, slot_count, stream_count, frame_area, work_area, part_start}
use Rattle.session.specs.Session.{Reply}
use Rattle.rules.specs.Rules.{check_of, command_byte, record_with, View, is_command, judged, Rule, rule, rules, first_broken}
use Rattle.frame.specs.Frame.{Frame, is_even, begins, ends, is_type, is_new, is_more, data_follows, is_last}
use Rattle.frame.specs.Records.{bit, request_record}
use Rattle.channel.specs.Receiver
use Rattle.channel.specs.Receiver.{Receiver, slot_at, place_of, slot_of, lowest_free, target, command_length, streams_after, accepted, put, with_finished, view_of}
use Rattle.requests.specs.Slots.{in_phase, slot_fits, id_in, slots_fit}
use Rattle.requests.specs.Phases.{free_slot, is_phase, takes_data, can_finish, code}
use Rattle.demands.specs.History
use Rattle.demands.specs.History.{History, frame, finish, stream_open, is_of, items_of, stands, request, how_many, id_count, active_ids, own, refusal_of, record_for, answer_to, view_in}
use Rattle.demands.specs.Request.{ending, idle, is_in, enters, item_of, moved, Request}
use Rattle.rules.proofs.Bools.{and_l, and_r, and_i, and_no, no_not, not_no, clash, by_cond}
use Rattle.channel.proofs.SlotLaws.{inside, each_fits}
use Rattle.rules.proofs.RuleLaws.{passed}
use Rattle.demands.proofs.CountLaws.{many_ext, none_free, used-many, in_found}
use Rattle.channel.proofs.PhaseLaws.{used}
use Rattle.channel.proofs.ReceiverLaws.{Ok, accepted-ok, finish-ok}
use Rattle.demands.proofs.SeenLaws.{seen, Fresh, fresh-id, held_bytes, short-slot, free_empty, other-frame, own-frame, put-seen, Finished, taken, stays, finish_cases, finish-other, finish-own}

-- the tables say what the history says; the frame under way plays no part
pub record Says (h : History) (r : Receiver) : Type 0 where
  pub live : r.state.dead ≡ 0
  pub work : work_area ≤ length r.work
  pub count : length r.state.slots ≡ slot_count
  pub slots : slots_fit r.state.slots ≡ true
  pub width : length r.state.streams ≡ stream_count
  pub streams : (k : ℕ) → is_even k ≡ false → k < 256 → get_or r.state.streams (k / 2) false ≡ stream_open h k
  pub requests : (id : ℕ) → seen id r ≡ request h id
  pub narrow : (id : ℕ) → is_in Free (request h id) ≡ false → id < id_count

-- a table of rules over two views: each test agrees where those before it pass
data Agree (f : Frame) (v u : View) : List Rule → Type 0 where
  none : Agree f v u []
  next : {n : ℕ} {a : Frame → View → Bool} {xs : List Rule} → a f v ≡ a f u → (a f v ≡ false → Agree f v u xs) → Agree f v u (rule n a ∷ xs)

agreed : (f : Frame) (v u : View) (xs : List Rule) → Agree f v u xs → first_broken xs f v ≡ first_broken xs f u
unfolding first_broken
agreed f v u [] none = refl
agreed f v u xs (next {n = n} {a = a} {xs = ys} e k) = go (a f v) (a f u) e (λ z. agreed f v u ys (k z))
  where
    go : (t z : Bool) → t ≡ z → (t ≡ false → first_broken ys f v ≡ first_broken ys f u)
        → ◌≡◌ {A = ℕ} (elim t as (λ _. ℕ) [ true ↦ n | false ↦ first_broken ys f v ]) (elim z as (λ _. ℕ) [ true ↦ n | false ↦ first_broken ys f u ])
    go true true q ih = refl
    go false false q ih = ih refl
    go true false q ih = absurd (true≢false q)
    go false true q ih = absurd (false≢true q)

guard : (g x y : Bool) → (g ≡ true → x ≡ y) → (g && x) ≡ (g && y)
guard true x y e = e refl
guard false x y e = refl

chosen : {A : Type 0} (g : Bool) (a b c d : A) → (g ≡ true → a ≡ b) → c ≡ d → cond g a c ≡ cond g b d
chosen true a b c d e k = e refl
chosen false a b c d e k = k

halves : (j k : ℕ) → is_even j ≡ false → is_even k ≡ false → (j ≡ k → ⊥) → k / 2 ≡ j / 2 → ⊥
unfolding is_even
halves j k a b ne e = let p : j % 2 ≡ 0 → ⊥ = eqb-false (j % 2) 0 a in let q : k % 2 ≡ 0 → ⊥ = eqb-false (k % 2) 0 b in omega (arith, ne, p, q)

module _ (h : History) (r : Receiver) (m : Says h r) where
  pub phase-is : (p : Phase) (id : ℕ) → in_phase p (slot_of r.state id) ≡ is_in p (request h id)
  unfolding is_phase seen
  phase-is p id = ap (is_in p) (m.requests id)

  full_is : leb (length r.state.slots) (lowest_free r.state) ≡ leb slot_count (active_ids h)
  unfolding lowest_free active_ids place_of slot_at
  full_is =
      let xs = r.state.slots in
      let active : (id : ℕ) → id_in id xs ≡ not (is_in Free (request h id)) = λ id. in_found id xs ∙ ap not (phase-is Free id) in
      none_free xs
      ∙ ap (leb (length xs)) (used-many id_count xs m.slots (λ id e. m.narrow id (not_no (is_in Free (request h id)) (sym (active id) ∙ e)))
      ∙ many_ext id_count (λ id. id_in id xs) (λ id. not (is_in Free (request h id))) active)
      ∙ ap (λ (n : ℕ). leb n (how_many id_count (λ id. not (is_in Free (request h id))))) m.count

  -- a slot's part holds as many bytes as the slot says
  part_length : (i : ℕ) → length (take (slot_at r.state i).length (drop (part_start i) r.work)) ≡ (slot_at r.state i).length
  unfolding slot_at
  part_length i = go (in_phase Free x) refl
    where
      x : Slot
      x = get_or r.state.slots i free_slot

      fits : slot_fits x ≡ true
      fits = each_fits r.state.slots i m.slots

      go : (t : Bool) → in_phase Free x ≡ t → length (take x.length (drop (part_start i) r.work)) ≡ x.length
      go true e = rw (free_empty x fits e)
      go false e =
          let a : i < length r.state.slots = inside r.state.slots i e in
          let b : x.length ≤ max_command = short-slot x fits in
          omega (arith, m.count, m.work, length-take x.length (drop (part_start i) r.work), length-drop (part_start i) r.work)

  module _ (f : Frame) (small : f.stream < 256) where
    abbrev s : Channel
    s = r.state

    abbrev w : List ℕ
    w = r.work

    open_is : is_even f.stream ≡ false → Receiver.stream_open s f ≡ stream_open h f.stream
    unfolding Receiver.stream_open
    open_is e = m.streams f.stream e small

    -- the command's bytes, where a new command's id is not active
    command-is : Fresh s f → Receiver.command s f w ≡ History.command h f
    unfolding Receiver.command History.command
    command-is k = ap (λ (l : List ℕ). l ++ f.payload) (held_bytes s f w m.slots k ∙ ap (λ (q : Request). q.bytes) (m.requests f.request))

    length-is : Fresh s f → command_length s f ≡ length (History.command h f)
    unfolding command_length Receiver.command
    length-is k =
        ap (λ (n : ℕ). n + length f.payload) (sym (part_length (target s f)))
        ∙ sym (length-append (take (slot_at s (target s f)).length (drop (part_start (target s f)) w)) f.payload)
        ∙ ap length (command-is k)

    judged-is : (n : ℕ) → (is_command f ≡ true → Fresh s f) → judged n f (view_of s f w) ≡ judged n f (view_in h f)
    unfolding judged view_of view_in
    judged-is n k =
        guard (is_command f && not (is_more f)) (eqb (check_of (Receiver.command s f w)) n) (eqb (check_of (History.command h f)) n)
        (λ c. ap (λ (l : List ℕ). eqb (check_of l) n) (command-is (k (and_l (is_command f) (not (is_more f)) c))))

    pub same_number : first_broken rules f (view_of s f w) ≡ refusal_of h f
    unfolding rules refusal_of view_of view_in seen
    same_number = agreed f (view_of s f w) (view_in h f) rules
        (next refl λ e12. next refl λ e13. next refl λ e14. next refl λ e15.
        next (ap (λ (t : Bool). not t && not (begins f)) (open_is e13)) λ e16.
        next (ap (λ (t : Bool). t && begins f) (open_is e13)) λ e17.
        next refl λ e18.
        next (ap (λ (q : Request). is_command f && is_new f && not (is_in Free q)) mine) λ e19.
        next (ap (λ (t : Bool). is_command f && is_new f && t) full_is) λ e20.
        next (ap (λ (q : Request). is_command f && not (is_new f) && not (is_in Collecting q)) mine) λ e21.
        next (ap (λ (q : Request). is_command f && not (is_new f) && not (beq (data_follows f) q.databit)) mine) λ e22.
        next (guard (is_command f) (ltb max_command (command_length s f)) (ltb max_command (length (History.command h f))) (λ c. ap (ltb max_command) (length-is (new e19 c)))) λ e23.
        next (judged-is 24 (new e19)) λ e24. next (judged-is 25 (new e19)) λ e25. next (judged-is 26 (new e19)) λ e26.
        next (ap (λ (q : Request). is_type 2 f && not (takes_data q.phase)) mine) λ e27.
        next refl λ e28. next refl λ e29. none)
      where
        mine : seen f.request r ≡ own h f
        mine = m.requests f.request

        new : (is_command f && is_new f && not (in_phase Free (slot_of s f.request))) ≡ false → is_command f ≡ true → Fresh s f
        new e c n = no_not (in_phase Free (slot_of s f.request)) (and_no (is_command f && is_new f) (not (in_phase Free (slot_of s f.request))) e (and_i (is_command f) (is_new f) c n))

    module _ (e : first_broken rules f (view_of s f w) ≡ 0) where
      pub same_record : record_with f (view_of s f w) ≡ record_for h f
      unfolding record_for record_with view_of view_in seen
      same_record =
          chosen (is_command f && not (is_more f)) (whole (Receiver.command s f w)) (whole (History.command h f)) (other (seen f.request r)) (other (own h f))
          (λ c. ap whole (command-is (fresh-id s f w m.work m.count m.slots e (and_l (is_command f) (not (is_more f)) c)))) (ap other (m.requests f.request))
        where
          whole : List ℕ → List ℕ
          whole bytes = request_record 1 f.request (command_byte (data_follows f) bytes) bytes

          other : Request → List ℕ
          other q = cond (is_type 2 f && is_in Waiting q) (request_record 2 f.request (bit (is_last f)) f.payload) []

      odd : is_even f.stream ≡ false
      unfolding rules view_of
      odd = passed f (view_of s f w) rules 13 0 refl e

      streams-after : (k : ℕ) → is_even k ≡ false → k < 256 → get_or (streams_after s f) (k / 2) false ≡ stream_open (frame f ∷ h) k
      unfolding streams_after stream_open
      streams-after k a l = go (eqb f.stream k) refl
        where
          go : (t : Bool) → eqb f.stream k ≡ t → get_or (set s.streams (f.stream / 2) (not (ends f))) (k / 2) false ≡ cond t (not (ends f)) (stream_open h k)
          go true q = rw (← (eqb-true f.stream k q)) (get_or-set_same s.streams (f.stream / 2) (not (ends f)) false (omega (arith, m.width)))
          go false q = get_or-set_other s.streams (f.stream / 2) (k / 2) (not (ends f)) false (halves f.stream k odd a (eqb-false f.stream k q)) ∙ m.streams k a l

      requests_after : (id : ℕ) → seen id (accepted s f w).next ≡ request (frame f ∷ h) id
      unfolding request items_of stands is_command is_of
      requests_after id = go (is_of id f) refl
        where
          go : (t : Bool) → is_of id f ≡ t → seen id (accepted s f w).next ≡ stands (cond t (item_of f ∷ items_of id h) (items_of id h))
          go true q =
              subst (λ (j : ℕ). seen j (accepted s f w).next ≡ moved (request h j) (item_of f)) (eqb-true f.request id (and_l (eqb f.request id) (is_type 1 f || is_type 2 f) q))
              (own-frame s f w m.work m.count m.slots e (and_r (eqb f.request id) (is_type 1 f || is_type 2 f) q)
              ∙ ap (λ (x : Request). moved x (item_of f)) (m.requests f.request))
          go false q =
              other-frame s f w m.work m.count m.slots e id (λ ty z. clash (and_i (eqb f.request id) (is_type 1 f || is_type 2 f) (eq-eqb f.request id z) ty) q)
              ∙ m.requests id

      narrow_after : f.request < id_count → (id : ℕ) → is_in Free (request (frame f ∷ h) id) ≡ false → id < id_count
      unfolding request items_of is_of
      narrow_after l id = go (eqb f.request id) refl
        where
          go : (t : Bool) → eqb f.request id ≡ t → is_in Free (stands (cond (t && (is_type 1 f || is_type 2 f)) (item_of f ∷ items_of id h) (items_of id h))) ≡ false → id < id_count
          go true q k = rw (eqb-true f.request id q) at l
          go false q k = m.narrow id k

      pub says-after : f.request < id_count → Says (frame f ∷ h) (accepted s f w).next
      unfolding accepted streams_after
      says-after l =
          let k : Ok (accepted s f w).next = accepted-ok s f w m.work m.count m.slots e m.live in
          record {
            live = m.live;
            work = k.work;
            count = k.count;
            slots = k.slots;
            width = rw length-set m.width;
            streams = streams-after;
            requests = requests_after;
            narrow = narrow_after l;
          }

-- ---- a byte that completes no frame, and finish

pub says-put : (h : History) (r : Receiver) (b : ℕ) → Says h r → r.state.pending < frame_area → Says h (put r b)
unfolding put
says-put h r b m l = record {
  live = m.live;
  work = rw length-set m.work;
  count = m.count;
  slots = m.slots;
  width = m.width;
  streams = m.streams;
  requests = λ id. put-seen id r b l ∙ m.requests id;
  narrow = m.narrow;
}

module _ (h : History) (r : Receiver) (j : ℕ) (k : Ok r) (m : Says h r) where
  requests_finish : (t : Reply Receiver) → Finished r j t → (id : ℕ) → seen id t.next ≡ request (finish j ∷ h) id
  unfolding request items_of stands
  requests_finish t c id = go (eqb j id) refl
    where
      go : (u : Bool) → eqb j id ≡ u → seen id t.next ≡ stands (cond u (ending ∷ items_of id h) (items_of id h))
      go true q = finish-own id r k t (subst (λ (x : ℕ). Finished r x t) (eqb-true j id q) c) ∙ ap (λ (x : Request). moved x ending) (m.requests id)
      go false q = finish-other id r j k (eqb-false j id q) t c ∙ m.requests id

  narrow_finish : (id : ℕ) → is_in Free (request (finish j ∷ h) id) ≡ false → id < id_count
  unfolding request items_of stands moved is_phase idle code enters
  narrow_finish id =
      by_cond (λ l. is_in Free (stands l) ≡ false → id < id_count) (eqb j id) (ending ∷ items_of id h) (items_of id h)
      (λ _. by_cond Narrow (is_in Waiting q) (enters Draining q) (cond (is_in Running q) idle q)
      (λ u _. m.narrow id (used Waiting q.phase refl u))
      (λ _. by_cond Narrow (is_in Running q) idle q (λ _ z. clash refl z) (λ _. m.narrow id)))
      (λ _. m.narrow id)
    where
      q : Request
      q = request h id

      Narrow : Request → Type 0
      Narrow x = is_in Free x ≡ false → id < id_count

  abbrev Goes : Reply Receiver → Type 0
  Goes t = (Says (finish j ∷ h) t.next) × (t.number ≡ answer_to h j)

  can_is : can_finish (slot_of r.state j).phase ≡ can_finish (request h j).phase
  unfolding seen
  can_is = ap (λ (q : Request). can_finish q.phase) (m.requests j)

  finished : (t : Reply Receiver) → Finished r j t → Ok t.next → Goes t
  unfolding with_finished answer_to stream_open
  finished t (taken e) o = (
    record { live = m.live; work = o.work; count = o.count; slots = o.slots; width = m.width; streams = m.streams; requests = requests_finish t (taken e); narrow = narrow_finish },
    rw (sym can_is ∙ e),
  )
  finished t (stays e) o = (
    record { live = m.live; work = o.work; count = o.count; slots = o.slots; width = m.width; streams = m.streams; requests = requests_finish t (stays e); narrow = narrow_finish },
    rw (sym can_is ∙ e),
  )

  pub says-finish : Goes (Receiver.finish r j)
  says-finish = finished (Receiver.finish r j) (finish_cases r j m.live) (finish-ok r j k)
