-- Bytes that end before the eighth byte of their frame, or before its last, are put and nothing else happens.
-- Assumes nothing.
use Prim.Native.Nat.{ℕ, suc, ◌+◌, ◌-◌, ◌≤◌, ◌<◌, min}
use native.Mathlib.Nat.{add-zero}
use mathlib.Core.Path.{◌≡◌, refl, sym, ap, ◌∙◌}
use mathlib.Core.Bool.{Bool, true, false}
use mathlib.Core.List.{List, [], ◌∷◌, ◌++◌}
use native.Mathlib.Omega.{arith}
use lib.ListN.{length, take, set}
use lib.Dec.{ltb}
use borrow.Author.Tests.{ltb-true, ltb-false, lt-ltb, le-ltb, ne_eqb}
use Rattle.buffer.specs.Bytes.{write}
use Rattle.buffer.proofs.WriteLaws.{write-none, write-set}
use Rattle.frame.specs.Limits.{max_payload, frame_area}
use Rattle.frame.specs.Header.{length_of}
use Rattle.session.specs.Session.{Reading, read, Step}
use Rattle.session.proofs.Laws.{behind, behind-none}
use Rattle.session.proofs.Pieces.{read-quiet}
use Rattle.channel.specs.Receiver.{Receiver, with_pending, put, is_whole, too_long, take_byte}
use Rattle.channel.specs.Channel.{channel}
use Rattle.channel.specs.Steps.{receiver, quiet_count, Held}
use Rattle.channel.proofs.ReceiverLaws.{length-later, take-live}
use Rattle.channel.proofs.FrameLaws.{not-long, counted_open}

-- these many bytes can be put: they end before the frame's eighth byte, or before its last
pub data Quiet (p : ℕ) (w : List ℕ) (n : ℕ) : Type 0 where
  early : p + n < 8 → Quiet p w n
  late : 8 ≤ p → p + n < 8 + length_of w → Quiet p w n

-- the place of a byte that is judged: the eighth of its frame, or the last of a frame that passed 11
pub data Judged (p : ℕ) (w : List ℕ) : Type 0 where
  eighth : p ≡ 7 → Judged p w
  last : p ≡ 7 + length_of w → length_of w ≤ max_payload → Judged p w

pub judged-late : (p : ℕ) (w : List ℕ) → Judged p w → 7 ≤ p
judged-late p w (eighth e) = omega arith
judged-late p w (last e l) = omega arith

-- with these bytes put
abbrev advanced : Receiver → List ℕ → Receiver
advanced r bs = receiver (with_pending r.state (r.state.pending + length bs)) (write r.work r.state.pending bs)

-- from the third byte on the length stands
length-put : (bs w : List ℕ) (n : ℕ) → 3 ≤ n → length_of (write w n bs) ≡ length_of w
length-put [] w n h = ap length_of (write-none w n)
length-put (b ∷ bs) w n h = ap length_of (write-set w n b bs) ∙ length-put bs (set w n b) (suc n) (omega arith) ∙ length-later w n b h

-- ---- one byte

module _ (r : Receiver) (b : ℕ) (n : ℕ) where
  abbrev Some : Type 0
  Some = Quiet r.state.pending r.work (suc n)

  -- the others can be put after the first
  quiet_next : Some → Quiet (put r b).state.pending (put r b).work n
  unfolding put
  quiet_next (early h) = early (omega arith)
  quiet_next (late l h) = late (omega arith) (omega (arith, length-later r.work r.state.pending b (omega arith)))

  not-eighth : Some → suc r.state.pending ≡ 8 → ⊥
  not-eighth (early h) e = omega arith
  not-eighth (late l h) e = omega arith

  quiet_short : Some → too_long (put r b) ≡ false
  unfolding put
  quiet_short q = not-long (put r b) (λ e. absurd (not-eighth q e))

  quiet_open : Some → is_whole (put r b) ≡ false
  unfolding put is_whole
  quiet_open (early h) = ne_eqb (suc r.state.pending) (8 + length_of (put r b).work) (λ q. omega arith)
  quiet_open (late l h) =
      ne_eqb (suc r.state.pending) (8 + length_of (put r b).work) (λ q. omega (arith, length-later r.work r.state.pending b (omega arith)))

  quiet-byte : r.state.dead ≡ 0 → Some → take_byte r b ≡ record { next = put r b; adds = [] }
  quiet-byte d q = take-live r b d ∙ counted_open (put r b) (quiet_short q) (quiet_open q)

live : (r : Receiver) (b : ℕ) → r.state.dead ≡ 0 → (put r b).state.dead ≡ 0
unfolding put
live r b d = d

-- ---- all of them

advanced-none : (r : Receiver) → advanced r [] ≡ r
advanced-none r = rw (add-zero, write-none)

advanced-put : (r : Receiver) (b : ℕ) (bs : List ℕ) → advanced (put r b) bs ≡ advanced r (b ∷ bs)
unfolding put
advanced-put r b bs =
    let e : suc r.state.pending + length bs ≡ r.state.pending + suc (length bs) = omega arith in
    rw (e, write-set)

behind-one : {R : Type 0} (n : ℕ) (g : Reading R) → behind 1 [] (behind n [] g) ≡ behind (suc n) [] g
behind-one n g =
    let e : 1 + (n + g.taken) ≡ suc n + g.taken = omega arith in
    rw e

-- they are taken, nothing is added, and the rest is read behind them
pub read-put : (r : Receiver) (room : ℕ) (bs rest : List ℕ) → r.state.dead ≡ 0 → Quiet r.state.pending r.work (length bs)
    → read channel r room (bs ++ rest) ≡ behind (length bs) [] (read channel (advanced r bs) room rest)
read-put r room [] rest d q =
    behind-none (read channel r room rest) ∙ ap (λ (p : Receiver). behind 0 [] (read channel p room rest)) (sym (advanced-none r))
read-put r room (b ∷ bs) rest d q =
    read-quiet channel r room b (bs ++ rest) (quiet_open r b (length bs) q) (rw step (live r b d)) (rw step)
    ∙ ap (λ (t : Step Receiver). behind 1 [] (read channel t.next room (bs ++ rest))) step
    ∙ ap (behind 1 []) (read-put (put r b) room bs rest (live r b d) (quiet_next r b (length bs) q))
    ∙ behind-one (length bs) (read channel (advanced (put r b) bs) room rest)
    ∙ ap (λ (p : Receiver). behind (suc (length bs)) [] (read channel p room rest)) (advanced-put r b bs)
  where
    step : take_byte r b ≡ record { next = put r b; adds = [] }
    step = quiet-byte r b (length bs) d q

-- ---- how many there are

pub count-early : (p n left : ℕ) → p < 8 → quiet_count p n left ≡ min left (7 - p)
unfolding quiet_count
count-early p n left h = rw (lt-ltb p 8 h)

pub count-late : (p n left : ℕ) → 8 ≤ p → quiet_count p n left ≡ min left (7 + n - p)
unfolding quiet_count
count-late p n left h = rw (le-ltb p 8 h)

module _ (p : ℕ) (w rest : List ℕ) (held : Held p w) where
  abbrev q : ℕ
  q = quiet_count p (length_of w) (length rest)

  by-eight : {P : Type 0} → (p < 8 → q ≡ min (length rest) (7 - p) → P) → (8 ≤ p → q ≡ min (length rest) (7 + length_of w - p) → P) → P
  by-eight {P} few many = go (ltb p 8) refl
    where
      go : (t : Bool) → ltb p 8 ≡ t → P
      go true e = let h : p < 8 = ltb-true p 8 e in few h (count-early p (length_of w) (length rest) h)
      go false e = let h : 8 ≤ p = ltb-false p 8 e in many h (count-late p (length_of w) (length rest) h)

  -- no more than there are
  pub quiet-few : q ≤ length rest
  quiet-few = by-eight (λ h e. omega arith) (λ h e. omega arith)

  -- they can be put
  pub quiet_can : Quiet p w q
  quiet_can = by-eight (λ h e. early (omega arith)) (λ h e. late h (omega (arith, (held h).1)))

  -- they stay in the places for the frame under way
  pub quiet-below : p + q < frame_area
  quiet-below = go quiet_can
    where
      go : Quiet p w q → p + q < frame_area
      go (early h) = omega arith
      go (late l h) = omega (arith, (held l).0)

  -- where bytes are left, the next one is judged
  pub quiet-done : q < length rest → Judged (p + q) (write w p (take q rest))
  quiet-done l =
      by-eight (λ h e. eighth (omega arith))
      (λ h e.
      let k : length_of (write w p (take q rest)) ≡ length_of w = length-put (take q rest) w p (omega arith) in
      last (omega (arith, (held h).1)) (omega (arith, (held h).0)))
