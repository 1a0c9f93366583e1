-- The loop over pieces of the input: what has been read so far, and how it goes on with the next piece.
-- Assumes nothing.
use Prim.Native.Nat.{ℕ, zero, suc, ◌+◌, ◌-◌, ◌≤◌}
use native.Mathlib.Nat.{zero-add, add-zero, add_assoc, sub-zero}
use mathlib.Core.Path.{◌≡◌, refl, sym, ap, ◌∙◌}
use mathlib.Core.List.{List, [], ◌∷◌, ◌++◌, append_assoc, append-nil}
use native.Mathlib.Omega.{arith}
use lib.ListN.{length, take, drop, length-append, length-take, length-drop, take-append-drop, drop_of_length-le}
use lib.Seq.{drop-drop, length-take-le, take-length}
use Rattle.buffer.specs.Bytes.{write}
use Rattle.buffer.proofs.WriteLaws.{length-write, write-none, write-twice, write-paste, take-written}
use Rattle.session.specs.Session.{Reading, read, wrote}
use Rattle.session.proofs.Laws.{behind, behind-none, read_keeps, read_fits}
use Rattle.session.proofs.Pieces.{read-on, read_stops, read_all, read-within, read_live}
use Rattle.channel.specs.Receiver.{Receiver}
use Rattle.channel.specs.Channel.{channel}
use Rattle.channel.specs.Steps.{put_from}
use Rattle.channel.proofs.ReceiverLaws.{Ok, keeps}

-- a feed's output: its records stand at the front
pub feeds-all : (r : Receiver) (input out : List ℕ) → Ok r → put_from out 0 (read channel r (length out) input) ≡ wrote channel out (read channel r (length out) input)
unfolding wrote
feeds-all r input out k =
    let recs : List ℕ = (read channel r (length out) input).records in
    let l : length recs ≤ length out = read_fits channel keeps r (length out) input k in
    ap (λ (o : List ℕ). record { number = (read channel r (length out) input).number; taken = (read channel r (length out) input).taken; written = length recs; next = (read channel r (length out) input).next; output = o })
    (write-paste out 0 recs (omega arith) ∙ rw (take-length recs, zero-add (length recs)))

-- readings one behind another
behind-behind : {R : Type 0} (n k : ℕ) (xs ys : List ℕ) (g : Reading R) → behind n xs (behind k ys g) ≡ behind (n + k) (xs ++ ys) g
behind-behind n k xs ys g = rw (append_assoc, add_assoc)

drop-cut : (k : ℕ) (l : List ℕ) → drop k l ≡ drop (length (take k l)) l
drop-cut zero l = refl
drop-cut (suc k) [] = refl
drop-cut (suc k) (x ∷ xs) = drop-cut k xs

module _ (r₀ : Receiver) (out₀ input : List ℕ) where
  abbrev whole : Reading Receiver
  whole = read channel r₀ (length out₀) input

  -- the receiver, the counts and the output so far
  pub record So (r : Receiver) (taken written : ℕ) (out : List ℕ) : Type 0 where
    pub ok : Ok r
    pub live : r.state.dead ≡ 0
    pub within : taken ≤ length input
    pub fits : written ≤ length out₀
    pub records : out ≡ write out₀ 0 (take written out)
    pub answer : whole ≡ behind taken (take written out) (read channel r (length out₀ - written) (drop taken input))

  -- ---- how it starts and ends

  pub so_start : Ok r₀ → r₀.state.dead ≡ 0 → So r₀ 0 0 out₀
  so_start k l = record {
    ok = k;
    live = l;
    within = omega arith;
    fits = omega arith;
    records = sym (write-none out₀ 0);
    answer = behind-none whole ∙ ap (λ (n : ℕ). behind 0 [] (read channel r₀ n input)) (sym (sub-zero (length out₀)));
  }

  module _ {r : Receiver} {taken written : ℕ} {out : List ℕ} (so : So r taken written out) where
    pub same_length : length out ≡ length out₀
    same_length = ap length so.records ∙ length-write out₀ 0 (take written out)

    so_far : length (take written out) ≡ written
    so_far = length-take-le written out (rw same_length so.fits)

    pub so_end : length input ≤ taken → record { number = 0; taken = taken; written = written; next = r; output = out } ≡ put_from out₀ 0 whole
    unfolding read
    so_end h =
        sym (ap (put_from out₀ 0) (so.answer ∙ ap (λ (l : List ℕ). behind taken (take written out) (read channel r (length out₀ - written) l)) (drop_of_length-le input h))
        ∙ rw (append-nil, so_far, ← so.records, add-zero))

    -- ---- the next piece

    module _ (k : ℕ) where
      abbrev rest : List ℕ
      rest = drop taken input

      abbrev pub piece : Reading Receiver
      piece = read channel r (length out - written) (take k rest)

      pub piece-within : taken + piece.taken ≤ length input
      piece-within =
          omega (arith, so.within, read-within channel r (length out - written) (take k rest), length-take k rest, length-drop taken input)

      pub piece-fits : written + length piece.records ≤ length out₀
      piece-fits =
          omega (arith, so.fits, same_length, read_fits channel keeps r (length out - written) (take k rest) so.ok)

      -- the records so far and those of the piece
      all : take (written + length piece.records) (write out written piece.records) ≡ take written out ++ piece.records
      all = take-written out written piece.records (omega (arith, piece-fits, same_length))

      joined : write out written piece.records ≡ write out₀ 0 (take written out ++ piece.records)
      joined =
          ap (λ (l : List ℕ). write l written piece.records) so.records
          ∙ ap (λ (n : ℕ). write (write out₀ 0 (take written out)) n piece.records) (sym (zero-add written) ∙ ap (λ (n : ℕ). 0 + n) (sym so_far))
          ∙ write-twice out₀ 0 (take written out) piece.records

      room : length out₀ - written ≡ length out - written
      room = ap (λ (n : ℕ). n - written) (sym same_length)

      in_two : whole ≡ behind taken (take written out) (read channel r (length out - written) (take k rest ++ drop k rest))
      in_two =
          so.answer
          ∙ ap (λ (n : ℕ). behind taken (take written out) (read channel r n rest)) room
          ∙ ap (λ (l : List ℕ). behind taken (take written out) (read channel r (length out - written) l)) (sym (take-append-drop k rest))

      -- what is left behind the piece
      left : piece.number ≡ 0 → drop k rest ≡ drop (taken + piece.taken) input
      left z =
          drop-cut k rest ∙ ap (λ (n : ℕ). drop n rest) (sym (read_all channel r (length out - written) (take k rest) z)) ∙ drop-drop piece.taken taken input

      goes_on : piece.number ≡ 0
          → whole ≡ behind (taken + piece.taken) (take (written + length piece.records) (write out written piece.records)) (read channel piece.next (length out₀ - (written + length piece.records)) (drop (taken + piece.taken) input))
      goes_on z =
          let n : length out - written - length piece.records ≡ length out₀ - (written + length piece.records) = omega (arith, same_length) in
          in_two
          ∙ ap (behind taken (take written out)) (read-on channel r (length out - written) (take k rest) (drop k rest) z)
          ∙ behind-behind taken piece.taken (take written out) piece.records (read channel piece.next (length out - written - length piece.records) (drop k rest))
          ∙ ap (λ (g : Reading Receiver). behind (taken + piece.taken) (take written out ++ piece.records) g)
          (ap (λ (i : ℕ). read channel piece.next i (drop k rest)) n ∙ ap (read channel piece.next (length out₀ - (written + length piece.records))) (left z))
          ∙ ap (λ (l : List ℕ). behind (taken + piece.taken) l (read channel piece.next (length out₀ - (written + length piece.records)) (drop (taken + piece.taken) input))) (sym all)

      pub so_on : piece.number ≡ 0 → So piece.next (taken + piece.taken) (written + length piece.records) (write out written piece.records)
      so_on z = record {
        ok = read_keeps channel keeps r (length out - written) (take k rest) so.ok;
        live = read_live channel r (length out - written) (take k rest) so.live z;
        within = piece-within;
        fits = piece-fits;
        records = joined ∙ ap (write out₀ 0) (sym all);
        answer = goes_on z;
      }

      pub so_off : (piece.number ≡ 0 → ⊥)
          → record { number = piece.number; taken = taken + piece.taken; written = written + length piece.records; next = piece.next; output = write out written piece.records }
          ≡ put_from out₀ 0 whole
      so_off h = sym (ap (put_from out₀ 0) (in_two ∙ ap (behind taken (take written out)) (read_stops channel r (length out - written) (take k rest) (drop k rest) h)) ∙ rw (← joined, length-append, so_far))
