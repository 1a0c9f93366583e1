-- The used slots are as many as the ids that have one. Assumes nothing.
use Prim.Native.Nat.{ℕ, zero, suc, ◌+◌, ◌<◌}
use mathlib.Core.Path.{◌≡◌, refl, sym, ap, ◌∙◌}
use mathlib.Core.Bool.{Bool, true, false, ◌||◌, not, cond}
use mathlib.Core.List.{List, [], ◌∷◌}
use native.Mathlib.Omega.{arith}
use lib.ListN.{length, get_or}
use lib.Dec.{leb, eqb, leb-suc-suc}
use borrow.Author.Tests.{eqb-true, eqb-false, lt-leb}
use Rattle.requests.specs.declared.Phase.TheVariants.{Free}
use Rattle.requests.specs.declared.Slot.{Slot}
use Rattle.frame.specs.Records.{bit}
use Rattle.requests.specs.Slots.{in_phase, is_id, first_slot, id_in, slots_fit, used_bit, used_count}
use Rattle.requests.proofs.UsedLaws.{at-most-all}
use Rattle.requests.specs.Phases.{free_slot, is_phase, code}
use Rattle.demands.specs.History.{how_many}
use Rattle.rules.proofs.Bools.{fails, clash}
use Rattle.channel.proofs.SlotLaws.{found, none-there, tail_fits, head_apart, apart_e, same_id, of_id, in_tail, in_head}

-- ---- how many numbers pass a test

pub many_ext : (n : ℕ) (p q : ℕ → Bool) → ((i : ℕ) → p i ≡ q i) → how_many n p ≡ how_many n q
many_ext n p q h = ap (how_many n) (λ i k. h k i)

below : (n : ℕ) (p q : ℕ → Bool) → ((i : ℕ) → i < n → q i ≡ p i) → how_many n q ≡ how_many n p
unfolding how_many
below zero p q h = refl
below (suc n) p q h = rw (h n (omega arith), below n p q (λ i l. h i (omega arith)))

none : (n : ℕ) → how_many n (λ _. false) ≡ 0
unfolding how_many bit
none zero = refl
none (suc n) = rw (none n)

-- one more number passes
one_more : (n : ℕ) (p q : ℕ → Bool) (k : ℕ) → k < n → p k ≡ false → q k ≡ true → ((i : ℕ) → (i ≡ k → ⊥) → q i ≡ p i) → how_many n q ≡ suc (how_many n p)
unfolding how_many bit
one_more zero p q k l a b h = absurd (no l)
  where
    no : k < 0 → ⊥
    no z = omega arith
one_more (suc n) p q k l a b h = go (λ m. one_more n p q k m a b h) (eqb n k) refl
  where
    go : (k < n → how_many n q ≡ suc (how_many n p)) → (t : Bool) → eqb n k ≡ t → bit (q n) + how_many n q ≡ suc (bit (p n) + how_many n p)
    go ih true e =
        let z : n ≡ k = eqb-true n k e in
        let pn : p n ≡ false = rw z a in
        let qn : q n ≡ true = rw z b in
        rw (pn, qn, below n p q (λ i m. h i (λ j. less m j z))) (omega arith)
      where
        less : {i : ℕ} → i < n → i ≡ k → n ≡ k → ⊥
        less m j z = omega arith
    go ih false e =
        let z : n ≡ k → ⊥ = eqb-false n k e in
        rw (h n z, ih (omega arith)) (omega arith)

-- ---- slots

used_cons : (x : Slot) (xs : List Slot) → used_count (x ∷ xs) ≡ cond (in_phase Free x) (used_count xs) (suc (used_count xs))
unfolding used_count used_bit bit
used_cons x xs = go (in_phase Free x)
  where
    go : (t : Bool) → bit (not t) + used_count xs ≡ cond t (used_count xs) (suc (used_count xs))
    go true = omega arith
    go false = omega arith

-- no slot is free exactly where all are used
pub none_free : (xs : List Slot) → leb (length xs) (first_slot (in_phase Free) xs) ≡ leb (length xs) (used_count xs)
unfolding used_count first_slot
none_free [] = refl
none_free (x ∷ xs) = rw (used_cons x xs) (go (in_phase Free x) (none_free xs))
  where
    go : (t : Bool) → leb (length xs) (first_slot (in_phase Free) xs) ≡ leb (length xs) (used_count xs) → leb (suc (length xs)) (cond t 0 (suc (first_slot (in_phase Free) xs))) ≡ leb (suc (length xs)) (cond t (used_count xs) (suc (used_count xs)))
    go true ih = lt-leb (suc (length xs)) 0 (omega arith) ∙ sym (lt-leb (suc (length xs)) (used_count xs) (omega (arith, at-most-all xs)))
    go false ih = leb-suc-suc (length xs) (first_slot (in_phase Free) xs) ∙ ih ∙ sym (leb-suc-suc (length xs) (used_count xs))

pub used-many : (n : ℕ) (xs : List Slot) → slots_fit xs ≡ true → ((id : ℕ) → id_in id xs ≡ true → id < n) → used_count xs ≡ how_many n (λ id. id_in id xs)
unfolding used_count id_in
used-many n [] e h = sym (none n)
used-many n (x ∷ xs) e h = rw (used_cons x xs) (go (in_phase Free x) refl (used-many n xs (tail_fits x xs e) (λ id k. h id (in_tail id x xs k))))
  where
    go : (t : Bool) → in_phase Free x ≡ t → used_count xs ≡ how_many n (λ id. id_in id xs) → cond t (used_count xs) (suc (used_count xs)) ≡ how_many n (λ id. is_id id x || id_in id xs)
    go true u ih = ih ∙ many_ext n (λ id. id_in id xs) (λ id. is_id id x || id_in id xs) (λ id. rw (fails (is_id id x) (λ k. clash u (same_id id x k).0)))
    go false u ih =
        ap suc ih
        ∙ sym (one_more n (λ id. id_in id xs) (λ id. is_id id x || id_in id xs) x.id (h x.id (in_head x.id x xs (of_id x u)))
        (fails (id_in x.id xs) (apart_e x xs (head_apart x xs e) u)) (rw (of_id x u))
        (λ id ne. rw (fails (is_id id x) (λ k. ne (sym (same_id id x k).1)))))

-- an id has a slot exactly where the search finds a used one
pub in_found : (id : ℕ) (xs : List Slot) → id_in id xs ≡ not (in_phase Free (get_or xs (first_slot (is_id id) xs) free_slot))
unfolding is_phase code
in_found id xs = go (id_in id xs) refl
  where
    go : (t : Bool) → id_in id xs ≡ t → t ≡ not (in_phase Free (get_or xs (first_slot (is_id id) xs) free_slot))
    go true e = rw (same_id id (get_or xs (first_slot (is_id id) xs) free_slot) (found id xs e)).0
    go false e = rw (none-there id xs e)
