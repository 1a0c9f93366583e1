-- A whole frame is read at once: its bytes are put from the pending place on, and it is judged. Assumes nothing.
use Prim.Native.Nat.{ℕ, suc, ◌+◌, ◌≤◌}
use native.Mathlib.Nat.{zero-add}
use mathlib.Core.Path.{◌≡◌, refl, ap, ◌∙◌}
use mathlib.Core.Bool.{true, false}
use mathlib.Core.List.{List, [], ◌∷◌, ◌++◌, map}
use native.Mathlib.Omega.{arith}
use lib.ListN.{length, drop}
use lib.Seq.{sets, sets-eq}
use lib.Dec.{ltb, eqb}
use borrow.Author.Tests.{eqb-true, eq-eqb, ne_eqb, le-ltb}
use Rattle.frame.specs.Limits.{max_payload}
use Rattle.session.specs.Session.{Event, took, Step, fed, uncut}
use Rattle.frame.specs.Frame.{frame_of}
use Rattle.frame.specs.Header.{length_of}
use Rattle.channel.specs.Receiver.{Receiver, put, is_whole, too_long, counted, judge}
use Rattle.channel.specs.Channel.{channel}
use Rattle.rules.proofs.Bools.{fails, clash, and_l, and_r}
use Rattle.channel.proofs.ReceiverLaws.{length-later, take-live}

-- all of these bytes put
unfoldable pub filled : Receiver → List ℕ → Receiver
filled r [] = r
filled r (b ∷ bs) = filled (put r b) bs

unfoldable pub judged-at : Receiver → Step Receiver
judged-at p = judge p.state (frame_of p.work) p.work

-- the last of these bytes, and no other, completes a frame that 11 lets pass
data Reads : Receiver → List ℕ → Type 0 where
  last : {r : Receiver} {b : ℕ} → r.state.dead ≡ 0 → too_long (put r b) ≡ false → is_whole (put r b) ≡ true → Reads r (b ∷ [])
  more : {r : Receiver} {b : ℕ} {bs : List ℕ} → r.state.dead ≡ 0 → too_long (put r b) ≡ false → is_whole (put r b) ≡ false → Reads (put r b) bs → Reads r (b ∷ bs)

pub counted-whole : (p : Receiver) → too_long p ≡ false → is_whole p ≡ true → counted p ≡ judged-at p
unfolding counted judged-at
counted-whole p l h = rw (l, h, counted)

pub counted_open : (p : Receiver) → too_long p ≡ false → is_whole p ≡ false → counted p ≡ record { next = p; adds = [] }
unfolding counted
counted_open p l h = rw (l, h, counted)

reads-uncut : (r : Receiver) (bs : List ℕ) (es : List Event) → Reads r bs → uncut channel r (map took bs ++ es) ≡ fed (judged-at (filled r bs)).adds (uncut channel (judged-at (filled r bs)).next es)
unfolding uncut filled fed
reads-uncut r bs es (last {b = b} d l h) =
    ap (λ (t : Step Receiver). fed t.adds (uncut channel t.next es)) (take-live r b d ∙ counted-whole (put r b) l h)
reads-uncut r bs es (more {b = b} {bs = cs} d l h k) =
    ap (λ (t : Step Receiver). fed t.adds (uncut channel t.next (map took cs ++ es))) (take-live r b d ∙ counted_open (put r b) l h)
    ∙ reads-uncut (put r b) cs es k

-- from the third byte on the length stands
kept-length : (bs : List ℕ) (r : Receiver) → 3 ≤ r.state.pending → length_of (filled r bs).work ≡ length_of r.work
unfolding filled put
kept-length [] r h = refl
kept-length (b ∷ bs) r h = kept-length bs (put r b) (omega arith) ∙ length-later r.work r.state.pending b h

pub not-long : (p : Receiver) → (p.state.pending ≡ 8 → length_of p.work ≤ max_payload) → too_long p ≡ false
unfolding too_long
not-long p h =
    fails (too_long p) (λ t. clash
    (and_r (eqb p.state.pending 8) (ltb max_payload (length_of p.work)) t)
    (le-ltb max_payload (length_of p.work) (h (eqb-true p.state.pending 8 (and_l (eqb p.state.pending 8) (ltb max_payload (length_of p.work)) t)))))

reads : (bs : List ℕ) (r : Receiver) → r.state.dead ≡ 0 → 1 ≤ length bs → r.state.pending + length bs ≡ 8 + length_of (filled r bs).work
    → length_of (filled r bs).work ≤ max_payload → Reads r bs
unfolding filled put is_whole
reads [] r d h e l = absurd (none h)
  where
    none : 1 ≤ 0 → ⊥
    none k = omega arith
reads (b ∷ []) r d h e l =
    last d (not-long (put r b) (λ _. l)) (eq-eqb (suc r.state.pending) (8 + length_of (put r b).work) (omega arith))
reads (b ∷ c ∷ cs) r d h e l =
    more d (not-long (put r b) (λ q. le (same (omega arith))))
    (ne_eqb (suc r.state.pending) (8 + length_of (put r b).work) (λ q. far q (same (omega arith))))
    (reads (c ∷ cs) (put r b) d (omega arith) (omega arith) l)
  where
    same : 3 ≤ suc r.state.pending → length_of (filled r (b ∷ c ∷ cs)).work ≡ length_of (put r b).work
    same k = kept-length (c ∷ cs) (put r b) k

    le : length_of (filled r (b ∷ c ∷ cs)).work ≡ length_of (put r b).work → length_of (put r b).work ≤ max_payload
    le k = omega arith

    far : suc r.state.pending ≡ 8 + length_of (put r b).work → length_of (filled r (b ∷ c ∷ cs)).work ≡ length_of (put r b).work → ⊥
    far q k = omega arith

filled-work : (bs : List ℕ) (r : Receiver) → (filled r bs).work ≡ sets r.work r.state.pending bs
unfolding filled put
filled-work [] r = refl
filled-work (b ∷ bs) r = filled-work bs (put r b)

-- between frames, the bytes of a whole frame
pub whole-frame : (r : Receiver) (bs : List ℕ) (es : List Event) → r.state.dead ≡ 0 → r.state.pending ≡ 0 → length bs ≤ length r.work → 8 ≤ length bs
    → length bs ≡ 8 + length_of (bs ++ drop (length bs) r.work) → length_of (bs ++ drop (length bs) r.work) ≤ max_payload
    → ((filled r bs).work ≡ bs ++ drop (length bs) r.work)
    × (uncut channel r (map took bs ++ es) ≡ fed (judged-at (filled r bs)).adds (uncut channel (judged-at (filled r bs)).next es))
whole-frame r bs es d z w h e l = (at, reads-uncut r bs es (reads bs r d (omega arith) (rw at (omega arith)) (rw at l)))
  where
    at : (filled r bs).work ≡ bs ++ drop (length bs) r.work
    at =
        filled-work bs r ∙ ap (λ (k : ℕ). sets r.work k bs) z ∙ sets-eq bs r.work 0 (omega arith)
        ∙ ap (λ (k : ℕ). bs ++ drop k r.work) (zero-add (length bs))
