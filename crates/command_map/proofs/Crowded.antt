-- Of four keys that are each `name`, `args` or `redirect` two are equal: an outer map with more than three entries has a key twice.
-- Assumes nothing.
use Rattle.std.specs.Prelude.{Option, None, Some, Ok}
use mathlib.Core.Path.{◌≡◌, refl, sym, ap, ◌∙◌}
use mathlib.Core.Bool.{Bool, true, false, cond, false≢true}
use mathlib.Core.Logic.{◌⊎◌, inl, inr}
use mathlib.Core.List.{List, [], ◌∷◌}
use Prim.Native.Nat.{ℕ, zero, suc, ◌+◌, ◌<◌}
use native.Mathlib.Omega.{arith}
use lib.Dec.{eqb}
use lib.ListN.{length}
use borrow.Author.Tests.{eqb-true, eqb-false}
use Rattle.cbor.specs.declared.Item.{Item}
use Rattle.cbor.specs.Cbor.{item_at, and_then, repeat, pair, value}
use Rattle.keys.specs.Keys.{part, equal, twice}
use Rattle.keys.proofs.Equal.{equal-true, equal-refl}
use Rattle.entries.specs.declared.Entry.{Entry}
use Rattle.entries.specs.declared.Entry.TheVariants.{Keyed, Other}
use Rattle.entries.specs.Entries.{all, onward, entry_at, entries, contents}
use Rattle.entries.proofs.Bools.{and_left, and_right}
use Rattle.entries.proofs.Walk.{end_of, entry-pair}
use Rattle.double_keys.proofs.KeyLists.{twice-pair}
use Rattle.command_map.specs.declared.Command.{Command}
use Rattle.command_map.specs.declared.Judged.{Judged}
use Rattle.command_map.specs.CommandMap.{name-key, args_key, redirect_key, is_name, is_args, is_map, allowed}
use Rattle.command_map.specs.Walk.{none_judged, judged, command_of}
use Rattle.command_map.proofs.Judgement.{all-allowed}

abbrev key_numbered : ℕ → List ℕ
key_numbered zero = name-key
key_numbered (suc zero) = args_key
key_numbered (suc (suc n)) = redirect_key

-- a key is one of the three
record Named (key : List ℕ) : Type 0 where
  number : ℕ
  small : number < 3
  is : key ≡ key_numbered number

data AllNamed : List (List ℕ) → Type 0 where
  none : AllNamed []
  more : {k : List ℕ} {ks : List (List ℕ)} → Named k → AllNamed ks → AllNamed (k ∷ ks)

-- three numbers below three that differ are all of them
third : (a b c : ℕ) → a < 3 → b < 3 → c < 3 → (a ≡ b → ⊥) → (a ≡ c → ⊥) → (b ≡ c → ⊥) → a + b + c ≡ 3
third a b c i j k v w x = omega arith

-- of four numbers below three two are equal
two-equal : (a b c d : ℕ) → a < 3 → b < 3 → c < 3 → d < 3 → (a ≡ b) ⊎ ((a ≡ c) ⊎ ((a ≡ d) ⊎ ((b ≡ c) ⊎ ((b ≡ d) ⊎ (c ≡ d)))))
two-equal a b c d i j k l = by (eqb a b) refl (eqb a c) refl (eqb a d) refl (eqb b c) refl (eqb b d) refl
  where
    by : (p : Bool) → eqb a b ≡ p → (q : Bool) → eqb a c ≡ q → (r : Bool) → eqb a d ≡ r → (t : Bool) → eqb b c ≡ t → (u : Bool) → eqb b d ≡ u
        → (a ≡ b) ⊎ ((a ≡ c) ⊎ ((a ≡ d) ⊎ ((b ≡ c) ⊎ ((b ≡ d) ⊎ (c ≡ d)))))
    by true e q f r g t h u m = inl (eqb-true a b e)
    by false e true f r g t h u m = inr (inl (eqb-true a c f))
    by false e false f true g t h u m = inr (inr (inl (eqb-true a d g)))
    by false e false f false g true h u m = inr (inr (inr (inl (eqb-true b c h))))
    by false e false f false g false h true m = inr (inr (inr (inr (inl (eqb-true b d m)))))
    by false e false f false g false h false m =
        let one = third a b c i j k (eqb-false a b e) (eqb-false a c f) (eqb-false b c h) in
        let other = third a b d i j l (eqb-false a b e) (eqb-false a d g) (eqb-false b d m) in
        inr (inr (inr (inr (inr (omega arith)))))

named-equal : (k l : List ℕ) (x : Named k) (y : Named l) → x.number ≡ y.number → equal k l ≡ true
named-equal k l x y e = rw (x.is ∙ ap key_numbered e ∙ sym y.is) (equal-refl l)

crowded : (ks : List (List ℕ)) → AllNamed ks → 3 < length ks → twice ks ≡ true
crowded [] none h = absurd (omega arith)
crowded (k ∷ []) (more x none) h = absurd (omega arith)
crowded (k ∷ l ∷ []) (more x (more y none)) h = absurd (omega arith)
crowded (k ∷ l ∷ m ∷ []) (more x (more y (more z none))) h = absurd (omega arith)
crowded (k ∷ l ∷ m ∷ n ∷ ks) (more x (more y (more z (more w r)))) h = by (two-equal x.number y.number z.number w.number x.small y.small z.small w.small)
  where
    by : (x.number ≡ y.number) ⊎ ((x.number ≡ z.number) ⊎ ((x.number ≡ w.number) ⊎ ((y.number ≡ z.number) ⊎ ((y.number ≡ w.number) ⊎ (z.number ≡ w.number))))) → twice (k ∷ l ∷ m ∷ n ∷ ks) ≡ true
    by (inl e) = twice-pair (k ∷ l ∷ m ∷ n ∷ ks) 0 1 (omega arith) (omega arith) (named-equal k l x y e)
    by (inr (inl e)) = twice-pair (k ∷ l ∷ m ∷ n ∷ ks) 0 2 (omega arith) (omega arith) (named-equal k m x z e)
    by (inr (inr (inl e))) = twice-pair (k ∷ l ∷ m ∷ n ∷ ks) 0 3 (omega arith) (omega arith) (named-equal k n x w e)
    by (inr (inr (inr (inl e)))) = twice-pair (k ∷ l ∷ m ∷ n ∷ ks) 1 2 (omega arith) (omega arith) (named-equal l m y z e)
    by (inr (inr (inr (inr (inl e))))) = twice-pair (k ∷ l ∷ m ∷ n ∷ ks) 1 3 (omega arith) (omega arith) (named-equal l n y w e)
    by (inr (inr (inr (inr (inr e))))) = twice-pair (k ∷ l ∷ m ∷ n ∷ ks) 2 3 (omega arith) (omega arith) (named-equal m n z w e)

module _ (s : List ℕ) where
  -- an entry that is allowed has one of the three keys
  by_key : (key : List ℕ) (p q r : Bool) (x : Option Item) → equal name-key key ≡ p → equal args_key key ≡ q → equal redirect_key key ≡ r
      → cond p (is_name x) (cond q (is_args s x) (cond r (is_map x) false)) ≡ true → Named key
  by_key key true q r x a b c ok = record { number = 0; small = omega arith; is = sym (equal-true name-key key a) }
  by_key key false true r x a b c ok = record { number = 1; small = omega arith; is = sym (equal-true args_key key b) }
  by_key key false false true x a b c ok = record { number = 2; small = omega arith; is = sym (equal-true redirect_key key c) }
  by_key key false false false x a b c ok = absurd (false≢true ok)

  contents-named : (es : List Entry) → all (allowed s) es ≡ true → AllNamed (contents s es) × (length (contents s es) ≡ length es)
  unfolding all contents allowed
  contents-named [] ok = (none, refl)
  contents-named (Keyed start stop next ∷ es) ok =
      let r = contents-named es (and_right (allowed s (Keyed start stop next)) _ ok) in
      (more (by_key (part s start stop) _ _ _ (item_at s stop) refl refl refl (and_left (allowed s (Keyed start stop next)) _ ok)) r.0, ap suc r.1)
  contents-named (Other next ∷ es) ok = absurd (false≢true ok)

  -- n entries that are all there are n
  onward-long : (n : ℕ) (e : Option Entry) (rest : ℕ → List Entry) (p : ℕ) (r : ℕ → Option ℕ) → ((q : ℕ) → r q ≡ Some p → length (rest q) ≡ n) → and_then (end_of e) r ≡ Some p → length (onward e rest) ≡ suc n
  onward-long n (Some (Keyed start stop next)) rest p r f h = ap suc (f next h)
  onward-long n (Some (Other next)) rest p r f h = ap suc (f next h)
  onward-long n None rest p r f h = absurd (let z : ◌≡◌ {A = ℕ} 0 1 = cc in omega arith)

  entries-long : (l n at p : ℕ) → repeat n (pair s (value s l)) at ≡ Some p → length (entries s l n at) ≡ n
  unfolding entries repeat
  entries-long l zero at p h = refl
  entries-long l (suc n) at p h = onward-long n (entry_at s l at) (entries s l n) p (repeat n (pair s (value s l))) (λ q. entries-long l n q p) (rw (← entry-pair s l at) h)

  -- a command whose judgement is of all its entries: where they are more than three a key stands twice
  pub too_many : (n at p : ℕ) (j : Judged) → repeat n (pair s (value s 7)) at ≡ Some p → judged s (entries s 7 n at) ≡ Some j → 3 < n → twice (contents s (entries s 7 n at)) ≡ true
  too_many n at p j h a l =
      let c = contents-named (entries s 7 n at) (sym (all-allowed s (Some none_judged) (entries s 7 n at)) ∙ rw a) in
      crowded (contents s (entries s 7 n at)) c.0 (omega (arith, c.1, entries-long 7 n at p h))

-- what makes a command is a judgement
pub is-judged : (o : Option Judged) (c : Command) → command_of o ≡ Ok c → (j : Judged) × (o ≡ Some j)
is-judged None c h = absurd (let z : ◌≡◌ {A = ℕ} 0 1 = cc in omega arith)
is-judged (Some j) c h = (j, refl)
