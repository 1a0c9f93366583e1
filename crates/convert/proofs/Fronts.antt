-- The whole records in front of some bytes, and what they leave. Assumes nothing.
use Rattle.std.proofs.Common.{◌≡◌, ℕ, ◌+◌, ◌-◌, ◌*◌, ◌%◌, ◌^◌, ◌≤◌, Result, Ok, Err, List, length, take, drop, refl, sym, ap, ◌∙◌, arith, length-drop}
use Rattle.std.proofs.lemmas.List.Edits.{take-paste}
use Rattle.std.specs.List.{copy_within}
use Rattle.std.specs.Result.{IsOk}
use Rattle.buffer.specs.Answers.{Answer, wrote}
use Rattle.buffer.proofs.WriteLaws.{take_of_drop, take-front}
use Rattle.logs.specs.Logs.{whole_length}
use Rattle.logs.specs.Convert.{wider, convert_of, number_of, answered}
use Rattle.logs.specs.Laws.{at_once}
use Rattle.logs.specs.declared.Refusal.{Refusal}
use Rattle.logs.specs.declared.Refusal.TheVariants.{EndsInside, ShortOutput}
use Rattle.logs.proofs.Alike.{done}
use Rattle.logs.proofs.Pieces.{front-whole, front-wider, grows_by_half}
use Rattle.convert.specs.Sizes.{room_length}
use Rattle.convert.specs.Turns.{Rewritten, Turned}
use Rattle.convert.specs.declared.run.Run.{Run}

-- ---- an answer that writes is no refusal

no-zero : (e : Refusal) → number_of e ≡ 0 → ⊥
no-zero EndsInside z = omega arith
no-zero ShortOutput z = omega arith

is-ok : (r : Result ℕ Refusal) (w out' out : List ℕ) → answered r out' ≡ wrote w out → IsOk r
is-ok (Ok n) w out' out a = refl
is-ok (Err e) w out' out a = absurd (no-zero e (ap (λ (x : Answer). x.number) a))

-- ---- the converter on the whole records in front of bytes that a room holds

module _ (s out : List ℕ) (n : ℕ) (e : n ≡ whole_length 2 s) (h : 3 * room_length ≤ 2 * length out) (l : length s ≤ room_length) where
  fits : length (wider s) ≤ length out
  fits = omega (arith, grows_by_half s)

  is-done : convert_of (take n s) out ≡ wrote (wider s) out
  is-done =
      let g : take n s ≡ take (whole_length 2 s) s = rw e refl in
      let w : wider (take n s) ≡ wider s = rw g (front-wider s) in
      done (take n s) out (rw g (front-whole s)) (rw w fits) ∙ rw w

  module _ (r : Result ℕ Refusal) (out' : List ℕ) (a : answered r out' ≡ convert_of (take n s) out) where
    pub accepted : IsOk r
    accepted = is-ok r (wider s) out' out (a ∙ is-done)

    pub writes : (k : ℕ) → r ≡ Ok k → (k ≤ length out) × (take k out' ≡ wider s)
    writes k o =
        let b : answered (Ok k) out' ≡ wrote (wider s) out = ap (λ (x : Result ℕ Refusal). answered x out') (sym o) ∙ a ∙ is-done in
        let m : k ≡ length (wider s) = ap (λ (x : Answer). x.written) b in
        let p = ap (λ (x : Answer). x.output) b in
        (omega (arith, m, fits), rw (m, p) (take-front out (wider s) fits))

-- ---- what is moved to the front is what the whole records leave

module _ (room : List ℕ) (held taken : ℕ) (h : held ≤ length room) (t : taken ≤ held) where
  front : (k : ℕ) → k ≡ 0 + (held - taken) → take k (copy_within room taken held 0) ≡ take (held - taken) (drop taken room)
  front k e =
      let l : held - taken ≤ length (drop taken room) = omega (arith, length-drop taken room) in
      rw e (take-paste room 0 (drop taken room) (held - taken) (omega arith) l)

  rest : take (held - taken) (copy_within room taken held 0) ≡ drop taken (take held room)
  rest =
      let k : taken + (held - taken) ≡ held = omega arith in
      front (held - taken) (omega arith) ∙ take_of_drop (held - taken) taken room ∙ rw k

  module _ (room' : List ℕ) where
    pub moved : room' ≡ copy_within room taken held 0 → take (held - taken) room' ≡ drop taken (take held room)
    moved m = rw m rest

    -- where no record is whole the rest stands there already
    pub unmoved : taken ≡ 0 → room' ≡ room → take (held - taken) room' ≡ drop taken (take held room)
    unmoved z m = let k : held - taken ≡ held = omega arith in rw (m, k, z)

  module _ (out : List ℕ) (written place : ℕ) (d : Rewritten (take held room) (record { taken = taken; written = written }) out) (room' : List ℕ)
      (m : take (held - taken) room' ≡ drop taken (take held room)) where
    pub turned : (r : Run) → r.held ≡ held - taken → r.place ≡ (place + taken) % 2 ^ 64 → Turned (take held room) place r room'
    unfolding at_once
    turned r e p = record { held = rw e (m ∙ rw d.taken); behind = p ∙ rw d.taken }
