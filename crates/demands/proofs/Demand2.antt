-- Demand 2: from the fresh state the plain receiver reads as the history alone does; and its count of active requests is the history's.
-- Assumes nothing.
use Prim.Native.Nat.{ℕ, zero, suc, ◌+◌, ◌/◌, ◌≤◌, ◌<◌}
use mathlib.Core.Path.{◌≡◌, refl, sym, ap, ◌∙◌, subst}
use mathlib.Core.Bool.{Bool, true, false, ◌&&◌, ◌||◌}
use mathlib.Core.List.{List, [], ◌∷◌, ◌++◌, map}
use native.Mathlib.Omega.{arith}
use native.Mathlib.Nat.{suc_inj}
use lib.ListN.{length, take, get_or, replicate}
use lib.Dec.{ltb, eqb}
use borrow.Author.Tests.{eqb-true, ltb-true}
use Rattle.channel.specs.declared.Channel.{Channel}
use Rattle.requests.specs.declared.Phase.TheVariants.{Free, Waiting, Running, Draining}
use Rattle.requests.specs.declared.Slot.{Slot}
use Rattle.frame.specs.Limits.{max_payload, stream_count, work_area}
use Rattle.session.specs.Session.{Step, Reply, Call, Event, took, asked, Outcome, fed, answered, uncut, events, feeds, owns, feed, own}
use Rattle.frame.specs.Frame.{Frame, frame_of, is_type, is_new, is_last}
use Rattle.frame.specs.Header.{length_of}
use Rattle.frame.specs.Records.{bit}
use Rattle.demands.specs.Request.{idle, is_in}
use Rattle.requests.specs.Phases.{is_phase, can_finish, code}
use Rattle.channel.specs.Receiver
use Rattle.channel.specs.Receiver.{Receiver, fresh_state, refused, slots_after, accepted, judge, put, is_whole, too_long, counted, take_byte, finish_state, slot_of, with_finished, view_of}
use Rattle.requests.specs.Slots.{in_phase, used_count}
use Rattle.channel.specs.Channel.{channel}
use Rattle.demands.specs.Demands.{fresh_on, Agree, Fed, nil, bytes, ends, Demand2, Demand2Session, ActiveCount, NextFrame}
use Rattle.demands.specs.History.{History, frame, finish, new_frames, finishes, drains_ended, ends_drain, IsCount, stream_open, items_of, stands, request, refusal_of, answer_to, is_long, is_all, Past, nothing, stopped, frame_after, bytes_after, byte_after, finish_after, told, Sent, none, byte, call, given}
use Rattle.rules.specs.Rules.{is_command, first_broken, rules}
use Rattle.rules.proofs.Bools.{clash, fails, and_l, and_r}
use Rattle.session.proofs.Laws as Laws
use Rattle.channel.proofs.ReceiverLaws.{Ok, take-ok, finish-ok, take-live, keeps}
use Rattle.demands.proofs.SeenLaws.{never, Finished, taken, stays, finish_cases, fresh_ok, fresh-idle}
use Rattle.demands.proofs.HistoryLaws.{Says, phase-is, same_number, same_record, says-after, says-put, says-finish}
use Rattle.demands.proofs.ActiveLaws.{grows, shrinks}
use Rattle.demands.proofs.CutLaws.{Under, under_none, under-put, same-long, same_whole, same-frame, small-stream, small-request}

-- The receiver's count is the history's.
abbrev Counted : History → Receiver → Type 0
Counted h r = IsCount r.state.active h

-- A live receiver holds what the history and the first bytes of the frame under way say.
pub record Holds (h : History) (bs : List ℕ) (r : Receiver) : Type 0 where
  pub ok : Ok r
  pub says : Says h r
  pub under : Under bs r
  pub counted : Counted h r

-- A receiver goes with a past: both dead with one number, or live.
pub data Goes (t : Past) (r : Receiver) : Type 0 where
  dead : (n : ℕ) → t.number ≡ suc n → r.state.dead ≡ suc n → Counted t.deeds r → Goes t r
  live : t.number ≡ 0 → Holds t.deeds t.under r → Goes t r

pub one_number : (t : Past) (r : Receiver) → Goes t r → r.state.dead ≡ t.number
one_number t r (dead n a b c) = b ∙ sym a
one_number t r (live a m) = m.says.live ∙ sym a

abbrev pub Steps : Step Past → Step Receiver → Type 0
Steps u v = (Goes u.next v.next) × (v.adds ≡ u.adds)

abbrev Replies : Reply Past → Reply Receiver → Type 0
Replies u v = (Goes u.next v.next) × (v.number ≡ u.number)

-- ---- the cases of a byte and of a finish

abbrev on : {A : Type 0} → ℕ → A → (ℕ → A) → A
on {A} n a g = elim n as (λ _. A) [ zero ↦ a | suc n ↦ g n ]

on-zero : {A : Type 0} (n : ℕ) (a : A) (g : ℕ → A) → n ≡ 0 → on n a g ≡ a
on-zero zero a g e = refl
on-zero (suc n) a g e = never n e

on-suc : {A : Type 0} (n k : ℕ) (a : A) (g : ℕ → A) → n ≡ suc k → on n a g ≡ g k
on-suc zero k a g e = never k (sym e)
on-suc (suc n) k a g e = ap g (suc_inj e)

take-dead : (r : Receiver) (b n : ℕ) → r.state.dead ≡ suc n → take_byte r b ≡ record { next = r; adds = [] }
unfolding take_byte
take-dead r b n e = on-suc r.state.dead n (counted (put r b)) (λ _. record { next = r; adds = [] }) e

past-dead : (t : Past) (b n : ℕ) → t.number ≡ suc n → byte_after t b ≡ record { next = t; adds = [] }
unfolding byte_after
past-dead t b n e = on-suc t.number n (bytes_after t (t.under ++ b ∷ [])) (λ _. record { next = t; adds = [] }) e

past-live : (t : Past) (b : ℕ) → t.number ≡ 0 → byte_after t b ≡ bytes_after t (t.under ++ b ∷ [])
unfolding byte_after
past-live t b e = on-zero t.number (bytes_after t (t.under ++ b ∷ [])) (λ _. record { next = t; adds = [] }) e

finish-dead : (r : Receiver) (j n : ℕ) → r.state.dead ≡ suc n → Receiver.finish r j ≡ record { next = r; number = suc n }
unfolding Receiver.finish finish_state
finish-dead r j n e = ap (λ (a : Reply Channel). record { next = record { state = a.next; work = r.work }; number = a.number })
    (on-suc r.state.dead n rest (λ k. record { next = r.state; number = suc k }) e)
  where
    rest : Reply Channel
    rest = elim (can_finish (slot_of r.state j).phase) [ true ↦ record { next = with_finished r.state j; number = 0 } | false ↦ record { next = r.state; number = 4 } ]

abbrev asking : Past → ℕ → Reply Past
asking t j = record { next = record { number = 0; deeds = finish j ∷ t.deeds; under = t.under }; number = answer_to t.deeds j }

asked-dead : (t : Past) (j n : ℕ) → t.number ≡ suc n → finish_after t j ≡ record { next = t; number = suc n }
unfolding finish_after
asked-dead t j n e = on-suc t.number n (asking t j) (λ k. record { next = t; number = suc k }) e

asked-live : (t : Past) (j : ℕ) → t.number ≡ 0 → finish_after t j ≡ asking t j
unfolding finish_after
asked-live t j e = on-zero t.number (asking t j) (λ k. record { next = t; number = suc k }) e

-- ---- one byte

module _ (t : Past) (r : Receiver) (b : ℕ) (small : b < 256) (m : Holds t.deeds t.under r) where
  abbrev h : History
  h = t.deeds

  abbrev bs : List ℕ
  bs = t.under ++ b ∷ []

  abbrev f : Frame
  f = frame_of bs

  abbrev p : Receiver
  p = put r b

  u : Under bs p
  u = under-put t.under r b small (omega (arith, m.ok.pending, m.ok.work)) m.under

  says : Says h p
  says = says-put h r b m.says m.ok.pending

  frame-number : first_broken rules f (view_of p.state f p.work) ≡ refusal_of h f
  frame-number = same_number h p says f (small-stream bs p u)

  put-counted : Counted h p
  unfolding put
  put-counted = m.counted

  -- a drain ends where the history says so
  drain_is : (is_type 2 f && is_last f && in_phase Draining (slot_of p.state f.request)) ≡ ends_drain h f
  unfolding ends_drain
  drain_is = ap (λ (t : Bool). is_type 2 f && is_last f && t) (phase-is h p says Draining f.request)

  frame-counted : first_broken rules f (view_of p.state f p.work) ≡ 0 → Counted (frame f ∷ h) (accepted p.state f p.work).next
  unfolding accepted new_frames finishes drains_ended put
  frame-counted z = together (used_count (slots_after p.state f)) (rw drain_is at (grows p.state f p.work says.work says.count says.slots z))
    where
      together : (n : ℕ) → n + bit (ends_drain h f) ≡ bit (is_command f && is_new f) + used_count r.state.slots
          → n + finishes h + (bit (ends_drain h f) + drains_ended h) ≡ bit (is_command f && is_new f) + new_frames h
      together n k = omega (arith, k, m.counted, m.ok.active)

  one-frame : (n : ℕ) → refusal_of h f ≡ n → Ok (judge p.state f p.work).next → Steps (frame_after t f) (judge p.state f p.work)
  unfolding frame_after judge stopped refused accepted
  one-frame zero q o =
      let z : first_broken rules f (view_of p.state f p.work) ≡ 0 = frame-number ∙ q in
      rw (q, z, frame_after, judge) (
        live refl (record {
          ok = rw (z, judge) at o;
          says = says-after h p says f (small-stream bs p u) z (small-request bs u.small);
          under = under_none (accepted p.state f p.work).next refl;
          counted = frame-counted z;
        }),
        same_record h p says f (small-stream bs p u) z,
      )
  one-frame (suc n) q o =
      let z : first_broken rules f (view_of p.state f p.work) ≡ suc n = frame-number ∙ q in
      rw (q, z, frame_after, judge) (dead n refl refl put-counted, refl)

  some_bytes : (l a : Bool) → is_long bs ≡ l → too_long p ≡ l → is_all bs ≡ a → is_whole p ≡ a → Ok (counted p).next → Steps (bytes_after t bs) (counted p)
  unfolding bytes_after counted stopped refused
  some_bytes true a l1 l2 a1 a2 o = rw (l1, l2, bytes_after, counted) (dead 10 refl refl put-counted, refl)
  some_bytes false true l1 l2 a1 a2 o =
      let g : frame_of p.work ≡ f = same-frame bs p u a1 in
      rw (l1, l2, a1, a2, bytes_after, counted)
      (subst (λ (x : Frame). Steps (frame_after t f) (judge p.state x p.work)) (sym g)
      (one-frame (refusal_of h f) refl (subst (λ (x : Frame). Ok (judge p.state x p.work).next) g (rw (l2, a2, counted) at o))))
  some_bytes false false l1 l2 a1 a2 o = rw (l1, l2, a1, a2, bytes_after, counted) (live refl (record { ok = rw (l2, a2, counted) at o; says = says; under = u; counted = put-counted }), refl)

  byte-live : t.number ≡ 0 → Steps (byte_after t b) (take_byte r b)
  byte-live e =
      let l : take_byte r b ≡ counted p = take-live r b m.says.live in
      rw (past-live t b e, l)
      (some_bytes (is_long bs) (is_all bs) refl (same-long bs p u) refl (same_whole bs p u) (subst (λ (v : Step Receiver). Ok v.next) l (take-ok r b m.ok).0))

one_byte : (t : Past) (r : Receiver) (b : ℕ) → b < 256 → Goes t r → Steps (byte_after t b) (take_byte r b)
one_byte t r b small (dead n a d c) = rw (past-dead t b n a, take-dead r b n d) (dead n a d c, refl)
one_byte t r b small (live a m) = byte-live t r b small m a

-- ---- one finish

finish-keeps : (r : Receiver) (j : ℕ) (bs : List ℕ) → Under bs r → (a : Reply Receiver) → Finished r j a → Under bs a.next
unfolding with_finished
finish-keeps r j bs u a (taken e) = record { pending = u.pending; held = u.held; small = u.small }
finish-keeps r j bs u a (stays e) = u

finish-counted : (h : History) (r : Receiver) (j : ℕ) → Says h r → Ok r → Counted h r → (a : Reply Receiver) → Finished r j a → Counted (finish j ∷ h) a.next
unfolding with_finished new_frames finishes drains_ended bit
finish-counted h r j m k c a (taken e) = rw (← phase-is h r m Running j) (omega (arith, c, k.active, shrinks r.state j e))
finish-counted h r j m k c a (stays e) = go (in_phase Waiting x) (in_phase Running x) e (phase-is h r m Running j)
  where
    x : Slot
    x = slot_of r.state j

    go : (w t : Bool) → (w || t) ≡ false → t ≡ is_in Running (request h j) → IsCount r.state.active (finish j ∷ h)
    go true t q z = clash refl q
    go false true q z = clash refl q
    go false false q z = rw (← z) (omega (arith, c))

one-finish : (t : Past) (r : Receiver) (j : ℕ) → Goes t r → Replies (finish_after t j) (Receiver.finish r j)
one-finish t r j (dead n a d c) = rw (asked-dead t j n a, finish-dead r j n d) (dead n a d c, refl)
one-finish t r j (live a m) =
    let g = says-finish t.deeds r j m.ok m.says in
    rw (asked-live t j a) (
      live refl (record {
        ok = finish-ok r j m.ok;
        says = g.0;
        under = finish-keeps r j t.under m.under (Receiver.finish r j) (finish_cases r j m.says.live);
        counted = finish-counted t.deeds r j m.says m.ok m.counted (Receiver.finish r j) (finish_cases r j m.says.live);
      }),
      g.1,
    )

-- ---- all of them

pub record Same (o : Outcome Receiver) (u : Outcome Past) : Type 0 where
  pub end : Goes u.end o.end
  pub records : o.records ≡ u.records
  pub answers : o.answers ≡ u.answers

pub reading : (es : List Event) → Sent es → (t : Past) (r : Receiver) → Goes t r → Same (uncut channel r es) (told t es)
unfolding uncut told fed answered
reading [] q t r g = record { end = g; records = refl; answers = refl }
reading (took b ∷ es) (byte l q) t r g =
    let s = one_byte t r b l g in
    let o = reading es q (byte_after t b).next (take_byte r b).next s.0 in
    record { end = o.end; records = λ i. s.1 i ++ o.records i; answers = o.answers }
reading (asked j ∷ es) (call q) t r g =
    let s = one-finish t r j g in
    let o = reading es q (finish_after t j).next (Receiver.finish r j).next s.0 in
    record { end = o.end; records = o.records; answers = λ i. s.1 i ∷ o.answers i }

-- ---- from the fresh state

all_closed : (n i : ℕ) → get_or (replicate n false) i false ≡ false
all_closed zero i = refl
all_closed (suc n) zero = refl
all_closed (suc n) (suc i) = all_closed n i

free : is_in Free idle ≡ true
unfolding is_phase idle code
free = refl

fresh_holds : (w : List ℕ) → work_area ≤ length w → Holds [] [] (fresh_on w)
unfolding fresh_state stream_open request items_of stands new_frames finishes drains_ended
fresh_holds w l =
    let k : Ok (fresh_on w) = fresh_ok w l in
    record {
      ok = k;
      says = record {
        live = refl;
        work = l;
        count = k.count;
        slots = k.slots;
        width = refl;
        streams = λ i a b. all_closed stream_count (i / 2);
        requests = λ id. fresh-idle id w;
        narrow = λ id e. clash free e;
      };
      under = under_none (fresh_on w) refl;
      counted = refl;
    }

-- ---- sessions, and a frame by itself

sent_more : (bs : List ℕ) (es : List Event) (n : ℕ) → ((i : ℕ) → get_or bs i 0 < 256) → Sent es → Sent (map took (take n bs) ++ es)
sent_more bs es zero s q = q
sent_more [] es (suc n) s q = q
sent_more (b ∷ bs) es (suc n) s q = byte (s 0) (sent_more bs es n (λ i. s (suc i)) q)

fed_sent : (cs : List Call) (r : Receiver) → Fed cs → Sent (events channel r cs)
unfolding events
fed_sent [] r nil = none
fed_sent (feeds input out ∷ cs) r (bytes s q) =
    sent_more input (events channel (feed channel r input out).next cs) (feed channel r input out).taken s (fed_sent cs (feed channel r input out).next q)
fed_sent (owns id ∷ cs) r (ends q) = call (fed_sent cs (own channel r id).next q)

-- all of a frame is no refused header
past-frame : (t : Past) (bs : List ℕ) → is_all bs ≡ true → bytes_after t bs ≡ frame_after t (frame_of bs)
unfolding bytes_after is_long is_all
past-frame t bs a = let short : is_long bs ≡ false = fails (is_long bs) (λ k. no k) in rw (short, a, bytes_after)
  where
    no : (eqb (length bs) 8 && ltb max_payload (length_of bs)) ≡ true → ⊥
    no k = omega (arith, eqb-true (length bs) (8 + length_of bs) a, eqb-true (length bs) 8 (and_l (eqb (length bs) 8) (ltb max_payload (length_of bs)) k), ltb-true max_payload (length_of bs) (and_r (eqb (length bs) 8) (ltb max_payload (length_of bs)) k))

frame-after : (t : Past) (f : Frame) → ((frame_after t f).next.number ≡ refusal_of t.deeds f) × ((frame_after t f).adds ≡ given t.deeds f)
unfolding frame_after stopped given
frame-after t f = go (refusal_of t.deeds f) refl
  where
    go : (n : ℕ) → refusal_of t.deeds f ≡ n → ((frame_after t f).next.number ≡ refusal_of t.deeds f) × ((frame_after t f).adds ≡ given t.deeds f)
    go zero e = rw (e, frame_after, given) (refl, refl)
    go (suc n) e = rw (e, frame_after, given) (refl, refl)

fresh-goes : (w : List ℕ) → work_area ≤ length w → Goes nothing (fresh_on w)
unfolding nothing
fresh-goes w l = live refl (fresh_holds w l)

same : (w : List ℕ) → work_area ≤ length w → (es : List Event) → Sent es → Same (uncut channel (fresh_on w) es) (told nothing es)
same w l es q = reading es q nothing (fresh_on w) (fresh-goes w l)

pub demand2 : Demand2
demand2 w l es q =
    let s = same w l es q in
    record { number = one_number (told nothing es).end (uncut channel (fresh_on w) es).end s.end; records = s.records; answers = s.answers }

pub demand2-session : Demand2Session
demand2-session w l cs q =
    subst (λ (o : Outcome Receiver). Agree o (told nothing (events channel (fresh_on w) cs))) (sym (Laws.session-uncut channel keeps (fresh_on w) (fresh_ok w l) cs))
    (demand2 w l (events channel (fresh_on w) cs) (fed_sent cs (fresh_on w) q))

counted_of : (t : Past) (r : Receiver) → Goes t r → Counted t.deeds r
counted_of t r (dead n a b c) = c
counted_of t r (live a m) = m.counted

pub active-count : ActiveCount
active-count w l cs q =
    let es = events channel (fresh_on w) cs in
    subst (λ (o : Outcome Receiver). Counted (told nothing es).end.deeds o.end) (sym (Laws.session-uncut channel keeps (fresh_on w) (fresh_ok w l) cs))
    (counted_of (told nothing es).end (uncut channel (fresh_on w) es).end (same w l es (fed_sent cs (fresh_on w) q)).end)

pub next-frame : NextFrame
next-frame w l es q b small e a =
    let now : Receiver = (uncut channel (fresh_on w) es).end in
    let past : Past = (told nothing es).end in
    let s = one_byte past now b small (same w l es q).end in
    let z : byte_after past b ≡ frame_after past (frame_of (past.under ++ b ∷ [])) = past-live past b e ∙ past-frame past (past.under ++ b ∷ []) a in
    let f = frame-after past (frame_of (past.under ++ b ∷ [])) in (
      one_number (byte_after past b).next (take_byte now b).next s.0 ∙ ap (λ (x : Step Past). x.next.number) z ∙ f.0,
      s.1 ∙ ap (λ (x : Step Past). x.adds) z ∙ f.1,
    )
