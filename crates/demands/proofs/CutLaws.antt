-- The frame at the front of the work area is the one that the bytes taken since the last frame make. Assumes nothing.
use Prim.Native.Nat.{ℕ, zero, suc, ◌+◌, ◌*◌, ◌/◌, ◌%◌, ◌≤◌, ◌<◌}
use mathlib.Core.Path.{◌≡◌, refl, sym, ap, ◌∙◌}
use mathlib.Core.Bool.{Bool, true, false, ◌&&◌}
use mathlib.Core.List.{List, [], ◌∷◌, ◌++◌}
use native.Mathlib.Omega.{arith}
use lib.ListN.{length, take, drop, get_or, set, length-append}
use lib.Seq.{get_or-take, take-take, take-suc-set}
use lib.Dec.{leb, ltb, eqb}
use borrow.Author.Tests.{eqb-true, ne_eqb, leb-true, leb-false}
use Rattle.frame.specs.Limits.{max_payload}
use Rattle.frame.specs.Frame.{frame_of}
use Rattle.frame.specs.Header.{length_of, header_of}
use Rattle.channel.specs.Receiver.{Receiver, put, is_whole, too_long}
use Rattle.demands.specs.History.{is_long, is_all, id_count}
use Rattle.buffer.proofs.WriteLaws.{take_of_drop}

cut-length : (n : ℕ) (w : List ℕ) → 3 ≤ n → length_of (take n w) ≡ length_of w
unfolding length_of
cut-length n w h = rw (get_or-take n w 0 0 (omega arith), get_or-take n w 1 0 (omega arith), get_or-take n w 2 0 (omega arith))

cut-frame : (n : ℕ) (w : List ℕ) → n ≡ 8 + length_of w → frame_of (take n w) ≡ frame_of w
unfolding frame_of header_of
cut-frame n w e = λ i. record {
  request = g 3 (omega arith) i + 256 * g 4 (omega arith) i;
  stream = g 5 (omega arith) i;
  stream_flags = g 6 (omega arith) i;
  type = g 7 (omega arith) i / 16;
  flags = g 7 (omega arith) i % 16;
  payload = payload i;
}
  where
    g : (k : ℕ) → k < 8 → get_or (take n w) k 0 ≡ get_or w k 0
    g k l = get_or-take n w k 0 (omega arith)

    L : ℕ
    L = length_of w

    payload : take (length_of (take n w)) (drop 8 (take n w)) ≡ take L (drop 8 w)
    payload =
        ap (λ (m : ℕ). take m (drop 8 (take n w))) (cut-length n w (omega arith))
        ∙ take_of_drop L 8 (take n w)
        ∙ ap (drop 8) (ap (λ (m : ℕ). take m (take n w)) (sym e) ∙ take-take n n w (omega arith) ∙ ap (λ (m : ℕ). take m w) e)
        ∙ sym (take_of_drop L 8 w)

-- these bytes stand at the front of the work area, and are pending
pub record Under (bs : List ℕ) (r : Receiver) : Type 0 where
  pub pending : r.state.pending ≡ length bs
  pub held : take (length bs) r.work ≡ bs
  pub small : (i : ℕ) → get_or bs i 0 < 256

small-more : (bs : List ℕ) (b : ℕ) → b < 256 → ((i : ℕ) → get_or bs i 0 < 256) → (i : ℕ) → get_or (bs ++ b ∷ []) i 0 < 256
small-more [] b l h zero = l
small-more [] b l h (suc i) = omega arith
small-more (x ∷ xs) b l h zero = h 0
small-more (x ∷ xs) b l h (suc i) = small-more xs b l (λ j. h (suc j)) i

pub under_none : (r : Receiver) → r.state.pending ≡ 0 → Under [] r
under_none r e = record { pending = e; held = refl; small = λ i. omega arith }

pub under-put : (bs : List ℕ) (r : Receiver) (b : ℕ) → b < 256 → r.state.pending < length r.work → Under bs r → Under (bs ++ b ∷ []) (put r b)
unfolding put
under-put bs r b l room u =
    let n : length (bs ++ b ∷ []) ≡ suc (length bs) = length-append bs (b ∷ []) ∙ omega arith in
    record {
      pending = ap suc u.pending ∙ sym n;
      held =
          ap (λ (k : ℕ). take k (set r.work r.state.pending b)) n
          ∙ ap (λ (k : ℕ). take (suc (length bs)) (set r.work k b)) u.pending
          ∙ take-suc-set r.work (length bs) b (omega (arith, u.pending))
          ∙ ap (λ (l : List ℕ). l ++ b ∷ []) u.held;
      small = small-more bs b l u.small;
    }

module _ (bs : List ℕ) (p : Receiver) (u : Under bs p) where
  same_length : 3 ≤ length bs → length_of p.work ≡ length_of bs
  same_length h = sym (cut-length (length bs) p.work h) ∙ ap length_of u.held

  pub same-long : too_long p ≡ is_long bs
  unfolding too_long is_long
  same-long = rw u.pending (go (eqb (length bs) 8) refl)
    where
      go : (t : Bool) → eqb (length bs) 8 ≡ t → (t && ltb max_payload (length_of p.work)) ≡ (t && ltb max_payload (length_of bs))
      go true e = ap (ltb max_payload) (same_length (omega (arith, eqb-true (length bs) 8 e)))
      go false e = refl

  pub same_whole : is_whole p ≡ is_all bs
  unfolding is_whole is_all
  same_whole = rw u.pending (go (leb 8 (length bs)) refl)
    where
      go : (t : Bool) → leb 8 (length bs) ≡ t → eqb (length bs) (8 + length_of p.work) ≡ eqb (length bs) (8 + length_of bs)
      go true e = ap (λ (n : ℕ). eqb (length bs) (8 + n)) (same_length (omega (arith, leb-true 8 (length bs) e)))
      go false e =
          let l : length bs < 8 = leb-false 8 (length bs) e in
          ne_eqb (length bs) (8 + length_of p.work) (λ q. far (length_of p.work) l q) ∙ sym (ne_eqb (length bs) (8 + length_of bs) (λ q. far (length_of bs) l q))
        where
          far : (m : ℕ) → length bs < 8 → length bs ≡ 8 + m → ⊥
          far m l q = omega arith

  pub same-frame : is_all bs ≡ true → frame_of p.work ≡ frame_of bs
  unfolding is_all
  same-frame e =
      let n : length bs ≡ 8 + length_of bs = eqb-true (length bs) (8 + length_of bs) e in
      sym (cut-frame (length bs) p.work (n ∙ ap (λ (k : ℕ). 8 + k) (sym (same_length (omega arith))))) ∙ ap frame_of u.held

  pub small-stream : (frame_of bs).stream < 256
  unfolding frame_of header_of
  small-stream = u.small 5

pub small-request : (bs : List ℕ) → ((i : ℕ) → get_or bs i 0 < 256) → (frame_of bs).request < id_count
unfolding frame_of header_of
small-request bs s = let a : get_or bs 3 0 < 256 = s 3 in let b : get_or bs 4 0 < 256 = s 4 in omega arith
