-- A piece of the input: what its bytes come to, by the pending count, the work area and the room alone, is what reading them comes to from
-- every live channel with that count. And what a turn of the loop leaves: the piece, and the frame that is judged with it.
-- Assumes nothing.
use Prim.Native.Nat.{ℕ, suc, ◌+◌, ◌-◌, ◌≤◌, ◌<◌}
use native.Mathlib.Nat.{add-zero}
use mathlib.Core.Path.{◌≡◌, refl, sym, ap, ◌∙◌}
use mathlib.Core.Bool.{Bool, true, false, cond}
use mathlib.Core.List.{List, [], ◌∷◌, append-nil}
use native.Mathlib.Omega.{arith}
use lib.ListN.{length, take, get_or, set}
use lib.Dec.{ltb, eqb}
use lib.Seq.{length-take-le, take-suc, take_all}
use borrow.Author.Tests.{eqb-true, eqb-false, eq-eqb, ne_eqb, ltb-true, ltb-false}
use Rattle.buffer.specs.Bytes.{write}
use Rattle.buffer.proofs.WriteLaws.{write-none}
use Rattle.frame.specs.Limits.{max_payload, longest_record}
use Rattle.frame.specs.Header.{length_of}
use Rattle.frame.specs.Frame.{frame_of}
use Rattle.session.specs.Session.{Feed, Reading, read}
use Rattle.session.proofs.Laws.{behind}
use Rattle.channel.specs.declared.Channel.{Channel}
use Rattle.channel.specs.declared.Fed.{Fed}
use Rattle.channel.specs.Receiver.{Receiver, with_dead, with_pending, refused, judge}
use Rattle.channel.specs.Channel.{channel, fed_with}
use Rattle.channel.specs.Steps.{receiver, put_from, judged_into, quiet_count, Held, Part, part, byte_of, later, piece_of, ended_with}
use Rattle.channel.proofs.ReceiverLaws.{length-later}
use Rattle.channel.proofs.QuietLaws.{Quiet, Judged, eighth, last, judged-late, read-put, quiet-few, quiet_can, quiet-done}
use Rattle.channel.proofs.ByteLaws.{byte-short, byte-whole, byte-long, byte_open}

-- ---- the reading that a part comes to, from a state

-- a whole frame is judged
abbrev judged_part : Channel → Part → Reading Receiver
judged_part s p =
    let t = judge (with_pending s p.pending) (frame_of p.work) p.work in
    record { number = t.next.state.dead; taken = p.taken; next = t.next; records = t.adds }

-- none is
abbrev plain_part : Channel → Part → Reading Receiver
plain_part s p = record { number = p.number; taken = p.taken; next = receiver (ended_with p.number (with_pending s p.pending)) p.work; records = [] }

abbrev reading_of : Channel → Part → Reading Receiver
reading_of s p = cond (eqb p.number 1) (judged_part s p) (plain_part s p)

-- a reading is what a part comes to; a frame that is to be judged passed 11
pub record Comes (s : Channel) (g : Reading Receiver) (p : Part) : Type 0 where
  pub reads : g ≡ reading_of s p
  pub frame : p.number ≡ 1 → length_of p.work ≤ max_payload

pub all-taken : (s : Channel) (g : Reading Receiver) (p : Part) → Comes s g p → g.taken ≡ p.taken
all-taken s g p k = ap (λ (x : Reading Receiver). x.taken) k.reads ∙ go (eqb p.number 1)
  where
    go : (t : Bool) → (cond t (judged_part s p) (plain_part s p)).taken ≡ p.taken
    go true = refl
    go false = refl

-- behind bytes that were put
later_comes : (s : Channel) (n q : ℕ) (g : Reading Receiver) (p : Part) → Comes (with_pending s n) g p → Comes s (behind q [] g) (later q p)
later_comes s n q g p k = record { reads = ap (behind q []) k.reads ∙ go (eqb p.number 1); frame = k.frame }
  where
    go : (t : Bool) → behind q [] (cond t (judged_part (with_pending s n) p) (plain_part (with_pending s n) p)) ≡ cond t (judged_part s (later q p)) (plain_part s (later q p))
    go true = refl
    go false = refl

-- ---- a byte that is judged

module _ (s : Channel) (w : List ℕ) (b room : ℕ) (live : s.dead ≡ 0) (j : Judged s.pending w) where
  abbrev n : ℕ
  n = s.pending

  after_seven : 7 ≤ n
  after_seven = judged-late n w j

  -- where it is not the last it is the eighth
  first-eight : (n ≡ 7 + length_of w → ⊥) → n ≡ 7
  first-eight h = go j
    where
      go : Judged n w → n ≡ 7
      go (eighth e) = e
      go (last e l) = absurd (h e)

  short : n ≡ 7 + length_of w → length_of w ≤ max_payload
  short h = go j
    where
      go : Judged n w → length_of w ≤ max_payload
      go (eighth e) = omega arith
      go (last e l) = l

  byte_comes : Comes s (read channel (receiver s w) room (b ∷ [])) (byte_of n w b room)
  unfolding byte_of refused
  byte_comes = go (eqb (n - 7) (length_of w)) (ltb room longest_record) (ltb max_payload (length_of w)) refl refl refl
    where
      closes : eqb (n - 7) (length_of w) ≡ true → n ≡ 7 + length_of w
      closes e = omega (arith, eqb-true (n - 7) (length_of w) e, after_seven)

      opens : eqb (n - 7) (length_of w) ≡ false → n ≡ 7 + length_of w → ⊥
      opens e h = eqb-false (n - 7) (length_of w) e (omega arith)

      go : (t u v : Bool) → eqb (n - 7) (length_of w) ≡ t → ltb room longest_record ≡ u → ltb max_payload (length_of w) ≡ v
          → Comes s (read channel (receiver s w) room (b ∷ [])) (cond t (cond u (part 5 0 n w) (part 1 1 0 (set w n b))) (cond v (part 11 1 0 (set w n b)) (part 0 1 8 (set w n b))))
      go true true v e l k = record { reads = byte-short s w b live after_seven room (closes e) (ltb-true room longest_record l); frame = λ h. omega arith }
      go true false v e l k = record {
        reads = byte-whole s w b live after_seven room (closes e) (short (closes e)) (ltb-false room longest_record l);
        frame = λ _. omega (arith, length-later w n b (omega (arith, after_seven)), short (closes e));
      }
      go false u true e l k = record { reads = byte-long s w b live after_seven room (first-eight (opens e)) (opens e) (ltb-true max_payload (length_of w) k); frame = λ h. omega arith }
      go false u false e l k = record { reads = byte_open s w b live after_seven room (first-eight (opens e)) (opens e) (ltb-false max_payload (length_of w) k); frame = λ h. omega arith }

-- ---- the bytes before it, which are put, and it

module _ (s : Channel) (w rest : List ℕ) (room : ℕ) (live : s.dead ≡ 0) (held : Held s.pending w) where
  abbrev r : Receiver
  r = receiver s w

  abbrev q : ℕ
  q = quiet_count s.pending (length_of w) (length rest)

  abbrev stored : List ℕ
  stored = write w s.pending (take q rest)

  abbrev ahead : Channel
  ahead = with_pending s (s.pending + q)

  abbrev whole : Reading Receiver
  whole = read channel r room (take (suc q) rest)

  size : length (take q rest) ≡ q
  size = length-take-le q rest (quiet-few s.pending w rest held)

  quiet : Quiet s.pending w (length (take q rest))
  quiet = rw size (quiet_can s.pending w rest held)

  -- they are all there is
  at-end : q ≡ length rest → whole ≡ record { number = 0; taken = q; next = receiver ahead stored; records = [] }
  unfolding read
  at-end e =
      ap (read channel r room) (take_all (suc q) rest (omega arith) ∙ sym (take_all q rest (omega arith)) ∙ sym (append-nil (take q rest)))
      ∙ read-put r room (take q rest) [] live quiet
      ∙ rw (size, add-zero)

  -- the next one is read too
  with_next : q < length rest → whole ≡ behind q [] (read channel (receiver ahead stored) room (get_or rest q 0 ∷ []))
  with_next l =
      ap (read channel r room) (take-suc rest q 0 l)
      ∙ read-put r room (take q rest) (get_or rest q 0 ∷ []) live quiet
      ∙ rw size

  pub piece_comes : Comes s whole (piece_of s.pending w rest room)
  unfolding piece_of
  piece_comes = go (eqb q (length rest)) refl
    where
      go : (t : Bool) → eqb q (length rest) ≡ t → Comes s whole (cond t (part 0 q (s.pending + q) stored) (later q (byte_of (s.pending + q) stored (get_or rest q 0) room)))
      go true e = record { reads = at-end (eqb-true q (length rest) e); frame = λ h. omega arith }
      go false e =
          let l : q < length rest = omega (arith, eqb-false q (length rest) e, quiet-few s.pending w rest held) in
          rw (with_next l) (later_comes s (s.pending + q) q _ _ (byte_comes ahead stored (get_or rest q 0) room live (quiet-done s.pending w rest held l)))

-- ---- a turn of the loop

-- the answer if the call ends here
abbrev pub answered : ℕ → ℕ → ℕ → Channel → List ℕ → List ℕ → Feed Receiver
answered number taken written s work out = record { number = number; taken = taken; written = written; next = receiver (ended_with number s) work; output = out }

pub same_answer : (number number' taken written written' : ℕ) (s s' : Channel) (work work' out out' : List ℕ)
    → work ≡ work' → out ≡ out' → s ≡ s' → written ≡ written' → number ≡ number' → answered number taken written s work out ≡ answered number' taken written' s' work' out'
same_answer number number' taken written written' s s' work work' out out' a b c d e = rw (a, b, c, d, e)

-- where the loop goes on, the state stays as it is
pub still : (number taken written : ℕ) (s : Channel) (work out : List ℕ) → number ≡ 0
    → record { number = number; taken = taken; written = written; next = receiver s work; output = out } ≡ answered number taken written s work out
still number taken written s work out z = rw z

-- and where it ends with the state's own dead number
own-number : (s : Channel) → ended_with s.dead s ≡ s
own-number s = go (eqb s.dead 11) refl
  where
    go : (t : Bool) → eqb s.dead 11 ≡ t → with_dead s (cond t 11 s.dead) ≡ s
    go true e = ap (with_dead s) (sym (eqb-true s.dead 11 e))
    go false e = refl

-- an answer behind the counts so far
abbrev pub further : ℕ → ℕ → Feed Receiver → Feed Receiver
further taken written f = record { number = f.number; taken = taken + f.taken; written = written + f.written; next = f.next; output = f.output }

module _ (s : Channel) (g : Reading Receiver) (p : Part) (k : Comes s g p) (out : List ℕ) (taken written : ℕ) where
  abbrev gives : Reading Receiver → Feed Receiver
  gives x = further taken written (put_from out written x)

  -- no frame is judged
  pub turn-plain : (p.number ≡ 1 → ⊥) → answered p.number (taken + p.taken) written (with_pending s p.pending) p.work out ≡ gives g
  turn-plain h =
      let e : reading_of s p ≡ plain_part s p = rw (ne_eqb p.number 1 h) in
      sym (ap gives (k.reads ∙ e) ∙ rw (write-none, add-zero))

  -- one is
  pub turn-judged : (a : Fed) (work new : List ℕ) → p.number ≡ 1 → fed_with a work new ≡ judged_into out written (with_pending s p.pending) p.work
      → answered a.number (taken + p.taken) (written + a.written) a.channel work new ≡ gives g
  turn-judged a work new h a-is =
      let e : reading_of s p ≡ judged_part s p = rw (eq-eqb p.number 1 h) in
      ap (λ (f : Feed Receiver). answered f.number (taken + p.taken) (written + f.written) f.next.state f.next.work f.output) a-is
      ∙ rw (own-number (judged_part s p).next.state) (sym (ap gives (k.reads ∙ e)))
