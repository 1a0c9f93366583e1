-- A log that comes in pieces comes to the same however it is cut, and less is held than a record can have. Assumes nothing.
use Prim.Native.Nat.{ℕ, zero, suc, ◌+◌, ◌*◌, ◌≤◌}
use native.Mathlib.Nat.{add_assoc, zero-add}
use native.Mathlib.Omega.{arith}
use mathlib.Core.Path.{◌≡◌, refl, sym, ap, ◌∙◌}
use mathlib.Core.Bool.{true, false}
use mathlib.Core.List.{List, [], ◌∷◌, ◌++◌, append_assoc, append-nil}
use borrow.Author.Tests.{le-leb}
use lib.ListN.{length, get_or, take, drop, length-append, length-drop, take-append-drop, drop_of_length-le, get_or-append}
use lib.Seq.{drop-drop, drop-append-le, take-append-le, take-add, length-take-le}
use Rattle.fields.specs.Fields.{little}
use Rattle.fields.proofs.FieldLaws.{bytes_drop}
use Rattle.logs.specs.Logs.{Stored, stored_bytes, log_of, claimed, size, is_there, first_of, records_from, records, whole_length}
use Rattle.logs.specs.Convert.{wider}
use Rattle.logs.specs.Laws.{Run, at_once, behind, in_pieces, joined, GrowsByHalf, AnyPieces, HeldShort}
use Rattle.logs.proofs.Walk.{there, not_there, more, last, first-length, by_record}
use Rattle.logs.proofs.Joined.{length_more, length_last, claim_small}

-- ---- a record that is there stays as it is when bytes follow

pub same_number : (w i : ℕ) (s t : List ℕ) → i + w ≤ length s → little w i (s ++ t) ≡ little w i s
same_number zero i s t h = refl
same_number (suc w) i s t h =
    let a : get_or (s ++ t) i 0 ≡ get_or s i 0 = get_or-append s t 0 i (omega arith) in
    omega (arith, a, same_number w (suc i) s t (omega arith))

module _ (w : ℕ) (s t : List ℕ) (h : is_there w s ≡ true) where
  same_claim : claimed w (s ++ t) ≡ claimed w s
  unfolding claimed
  same_claim = same_number w 0 s t (omega (arith, there w s h))

  still-there : is_there w (s ++ t) ≡ true
  unfolding is_there
  still-there = le-leb (size w (s ++ t)) (length (s ++ t)) (omega (arith, same_claim, there w s h, length-append s t))

  same_first : first_of w (s ++ t) ≡ first_of w s
  unfolding first_of
  same_first =
      let l : size w s ≤ length s = there w s h in
      let b : take (claimed w s) (drop (w + 2) s ++ t) ≡ take (claimed w s) (drop (w + 2) s) = take-append-le (claimed w s) (drop (w + 2) s) t (omega (arith, length-drop (w + 2) s)) in
      rw (same_claim, get_or-append s t 0 w (omega arith), get_or-append s t 0 (w + 1) (omega arith), drop-append-le (w + 2) s t (omega arith), b)

  same_rest : drop (size w (s ++ t)) (s ++ t) ≡ drop (size w s) s ++ t
  same_rest = rw same_claim (drop-append-le (size w s) s t (there w s h))

-- ---- the record in front and the rest

front : Stored → ℕ → Run
front r n = record { written = stored_bytes 4 r; passed = n; held = [] }

once_more : (s : List ℕ) → is_there 2 s ≡ true → at_once s ≡ behind (front (first_of 2 s) (size 2 s)) (at_once (drop (size 2 s) s))
unfolding at_once behind front wider log_of
once_more s h = rw (more 2 s h, length_more 2 s h, drop-drop (whole_length 2 (drop (size 2 s) s)) (size 2 s) s)

once_last : (s : List ℕ) → is_there 2 s ≡ false → at_once s ≡ record { written = []; passed = 0; held = s }
unfolding at_once wider log_of
once_last s h = rw (last 2 s h, length_last 2 s h)

behind-behind : (a b c : Run) → behind (behind a b) c ≡ behind a (behind b c)
unfolding behind
behind-behind a b c = rw (append_assoc a.written b.written c.written, add_assoc a.passed b.passed c.passed)

held-behind : (a b : Run) → (behind a b).held ≡ b.held
unfolding behind
held-behind a b = refl

none-behind : (s : List ℕ) (b : Run) → behind (record { written = []; passed = 0; held = s }) b ≡ b
unfolding behind
none-behind s b = rw (zero-add b.passed)

-- ---- bytes and then more bytes

record Cut (s : List ℕ) : Type 0 where
  cut : (t : List ℕ) → at_once (s ++ t) ≡ behind (at_once s) (at_once ((at_once s).held ++ t))

cut-last : (s : List ℕ) → is_there 2 s ≡ false → (t : List ℕ) → at_once (s ++ t) ≡ behind (at_once s) (at_once ((at_once s).held ++ t))
cut-last s h t = rw (once_last s h) (sym (none-behind s (at_once (s ++ t))))

cut-more : (s : List ℕ) → is_there 2 s ≡ true → Cut (drop (size 2 s) s) → (t : List ℕ)
    → at_once (s ++ t) ≡ behind (at_once s) (at_once ((at_once s).held ++ t))
cut-more s h rest t =
    let f : Run = front (first_of 2 s) (size 2 s) in
    let s' : List ℕ = drop (size 2 s) s in
    let held : (at_once s).held ≡ (at_once s').held = ap (λ (r : Run). r.held) (once_more s h) ∙ held-behind f (at_once s') in
    let n : size 2 (s ++ t) ≡ size 2 s = ap (λ (k : ℕ). 2 + 2 + k) (same_claim 2 s t h) in
    once_more (s ++ t) (still-there 2 s t h)
    ∙ rw (same_first 2 s t h, same_rest 2 s t h, n) (ap (behind f) (rest.cut t))
    ∙ sym (behind-behind f (at_once s') (at_once ((at_once s').held ++ t)))
    ∙ ap (λ (r : Run). behind r (at_once ((at_once s').held ++ t))) (sym (once_more s h))
    ∙ ap (λ (l : List ℕ). behind (at_once s) (at_once (l ++ t))) (sym held)

cut_at : (s t : List ℕ) → at_once (s ++ t) ≡ behind (at_once s) (at_once ((at_once s).held ++ t))
cut_at s = (by_record 2 Cut (λ s n. record { cut = cut-last s n }) (λ s y r. record { cut = cut-more s y r }) s).cut

-- ---- what is held is no whole record

record Ends (w : ℕ) (s : List ℕ) : Type 0 where
  ends : is_there w (drop (whole_length w s) s) ≡ false

ends_more : (w : ℕ) (s : List ℕ) → is_there w s ≡ true → Ends w (drop (size w s) s) → is_there w (drop (whole_length w s) s) ≡ false
ends_more w s h r = rw (length_more w s h, ← drop-drop (whole_length w (drop (size w s) s)) (size w s) s) r.ends

held-ends : (w : ℕ) (s : List ℕ) → is_there w (drop (whole_length w s) s) ≡ false
held-ends w s = (by_record w (Ends w) (λ s n. record { ends = rw (length_last w s n) n }) (λ s y r. record { ends = ends_more w s y r }) s).ends

at_once-ends : (s : List ℕ) → is_there 2 (at_once s).held ≡ false
unfolding at_once
at_once-ends s = held-ends 2 s

-- ---- the whole records in front, without what is held: a whole log, of the same records

record Alone (w : ℕ) (s : List ℕ) : Type 0 where
  within : whole_length w s ≤ length s
  alone : records w (take (whole_length w s) s) ≡ records w s

-- the record in front, which is there, and other bytes behind it than before
module _ (w : ℕ) (s : List ℕ) (h : is_there w s ≡ true) (t : List ℕ) where
  abbrev one : List ℕ
  one = take (size w s) s

  one-length : length one ≡ size w s
  one-length = length-take-le (size w s) s (there w s h)

  one_claim : claimed w one ≡ claimed w s
  unfolding claimed
  one_claim = sym (same_number w 0 one (drop (size w s) s) (omega (arith, one-length))) ∙ rw (take-append-drop (size w s) s)

  one-there : is_there w one ≡ true
  unfolding is_there
  one-there = le-leb (size w one) (length one) (omega (arith, one_claim, one-length))

  one-first : first_of w (one ++ t) ≡ first_of w s
  one-first = same_first w one t one-there ∙ sym (same_first w one (drop (size w s) s) one-there) ∙ rw (take-append-drop (size w s) s)

  one-rest : drop (size w (one ++ t)) (one ++ t) ≡ t
  one-rest =
      let l : length one ≤ size w one = omega (arith, one_claim, one-length) in
      let none : drop (size w one) one ≡ [] = drop_of_length-le one l in
      same_rest w one t one-there ∙ rw none

  one_more : records w (one ++ t) ≡ first_of w s ∷ records w t
  one_more = more w (one ++ t) (still-there w one t one-there) ∙ rw (one-first, one-rest)

alone-last : (w : ℕ) (s : List ℕ) → is_there w s ≡ false → records w (take (whole_length w s) s) ≡ records w s
unfolding records_from
alone-last w s n = rw (length_last w s n) (sym (last w s n))

alone-more : (w : ℕ) (s : List ℕ) → is_there w s ≡ true → Alone w (drop (size w s) s) → records w (take (whole_length w s) s) ≡ records w s
alone-more w s h r =
    let s' : List ℕ = drop (size w s) s in
    rw (length_more w s h, take-add (size w s) (whole_length w s') s, one_more w s h (take (whole_length w s') s'), r.alone) (sym (more w s h))

alones : (w : ℕ) (s : List ℕ) → Alone w s
alones w =
    by_record w (Alone w) (λ s n. record { within = omega (arith, length_last w s n); alone = alone-last w s n })
    (λ s h r. record { within = omega (arith, length_more w s h, r.within, there w s h, length-drop (size w s) s); alone = alone-more w s h r })

pub whole-within : (w : ℕ) (s : List ℕ) → whole_length w s ≤ length s
whole-within w s = (alones w s).within

module _ (s : List ℕ) where
  pub front-whole : whole_length 2 (take (whole_length 2 s) s) ≡ length (take (whole_length 2 s) s)
  unfolding whole_length
  front-whole = rw (alones 2 s).alone (sym (length-take-le (whole_length 2 s) s (alones 2 s).within))

  pub front-wider : wider (take (whole_length 2 s) s) ≡ wider s
  unfolding wider
  front-wider = rw (alones 2 s).alone

-- ---- a log grows by at most a half: a record has at least four bytes, and grows by two

record Grown (s : List ℕ) : Type 0 where
  grown : 2 * length (wider s) ≤ 3 * length s

grown_last : (s : List ℕ) → is_there 2 s ≡ false → 2 * length (wider s) ≤ 3 * length s
unfolding wider log_of
grown_last s n = rw (last 2 s n) (omega arith)

grown_more : (s : List ℕ) → is_there 2 s ≡ true → Grown (drop (size 2 s) s) → 2 * length (wider s) ≤ 3 * length s
unfolding wider log_of
grown_more s h r =
    let s' : List ℕ = drop (size 2 s) s in
    rw (more 2 s h)
    (omega (arith, length-append (stored_bytes 4 (first_of 2 s)) (log_of 4 (records 2 s')), first-length 2 s h 4, r.grown, there 2 s h, length-drop (size 2 s) s))

pub grows_by_half : GrowsByHalf
grows_by_half s = (by_record 2 Grown (λ s n. record { grown = grown_last s n }) (λ s h r. record { grown = grown_more s h r }) s).grown

-- ---- the claims

from-held : (held : List ℕ) (ps : List (List ℕ)) → is_there 2 held ≡ false → in_pieces held ps ≡ at_once (held ++ joined ps)
unfolding in_pieces joined
from-held held [] h = rw (append-nil held) (sym (once_last held h))
from-held held (p ∷ ps) h =
    let s : List ℕ = held ++ p in
    ap (behind (at_once s)) (from-held (at_once s).held ps (at_once-ends s)) ∙ sym (cut_at s (joined ps)) ∙ ap at_once (append_assoc held p (joined ps))

pub any_pieces : AnyPieces
unfolding is_there claimed
any_pieces ps = from-held [] ps refl

pub held-short : HeldShort
held-short w s b =
    let r : List ℕ = drop (whole_length w s) s in
    omega (arith, not_there w r (held-ends w s), claim_small w r (bytes_drop (whole_length w s) s b))
