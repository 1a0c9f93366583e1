-- The walk's judgement of all entries, part by part: it says of the list of entries what the definition of the command map says.
-- Assumes nothing.
use Rattle.std.specs.Prelude.{Option, None, Some, is_some, Ok, Err}
use mathlib.Core.Path.{◌≡◌, refl, sym, ap, ◌∙◌}
use mathlib.Core.Bool.{Bool, true, false, cond, ◌&&◌, ◌||◌, false≢true, or-true, or-false, or_assoc}
use mathlib.Core.List.{List, [], ◌∷◌, foldl}
use Prim.Native.Nat.{ℕ}
use lib.ListN.{length}
use borrow.Author.Tests.{eq-eqb}
use Rattle.std.specs.Option.{MatchOption, option_or}
use Rattle.cbor.specs.declared.Item.{Item}
use Rattle.cbor.specs.declared.Item.TheVariants.{Unsigned, Negative, Bytes, Simple, Array, Map, Set}
use Rattle.cbor.proofs.Folds.{by_bytes, by_map, after-bytes}
use Rattle.keys.specs.Keys.{part, equal, twice}
use Rattle.keys.proofs.Equal.{equal-true}
use Rattle.entries.proofs.Bools.{and_left, and_right}
use Rattle.entries.specs.declared.Entry.{Entry}
use Rattle.entries.specs.declared.Entry.TheVariants.{Keyed, Other}
use Rattle.double_keys.specs.declared.Keys.TheVariants.{Single, Double}
use Rattle.entries.specs.Entries.{all, any, is_keyed, entries, contents, has_key, find}
use Rattle.double_keys.specs.DoubleKeys.{keys_of}
use Rattle.command_map.specs.declared.Command.{Command}
use Rattle.command_map.specs.declared.Judged.{Judged}
use Rattle.command_map.specs.declared.Fields.{Fields}
use Rattle.command_map.specs.declared.Refusal.TheVariants.{NotCommand, DoubleKey}
use Rattle.command_map.specs.CommandMap.{Checked, name-key, args_key, redirect_key, is_name, is_map, command_with, is_args, has_double, value_item, allowed, value_found, value_under, args_double, double, map_of, map_checked}
use Rattle.command_map.specs.Walk.{none_judged, with_name, with_keys, with_redirect, with_args, judge, judge_next, judged, WalkedTo, Walked, command_of, also_double, JudgementHolds}

-- an item is there
There : Option Item → Type 0
There x = (y : Item) × (x ≡ Some y)

name-there : (x : Option Item) → is_name x ≡ true → There x
unfolding There
name-there x = by_bytes (λ (r : Bool). r ≡ true → There x) x _ false (λ start stop e h. (Bytes start stop, e)) (λ h. absurd (false≢true h))

-- the first of two that is there
or-none : (o : Option Item) → option_or o None ≡ o
or-none None = refl
or-none (Some x) = refl

or-first : (x o : Option Item) → There x → option_or x o ≡ x
unfolding There
or-first x o t = rw t.1

first_of : (a b c : Option Item) → option_or (option_or a b) c ≡ option_or a (option_or b c)
first_of None b c = refl
first_of (Some x) b c = refl

module _ (s : List ℕ) where
  args_map : (x : Option Item) → is_args s x ≡ true → (n : ℕ) × (at : ℕ) × (x ≡ Some (Map n at)) × (all is_keyed (entries s 6 n at) ≡ true)
  args_map x = by_map (λ (r : Bool). r ≡ true → (n : ℕ) × (at : ℕ) × (x ≡ Some (Map n at)) × (all is_keyed (entries s 6 n at) ≡ true)) x _ false
      (λ n at e h. (n, at, e, h)) (λ h. absurd (false≢true h))

  -- no key is both `name` and `args`
  one_key : (e : Entry) → has_key s name-key e ≡ true → has_key s args_key e ≡ false
  unfolding equal
  one_key (Keyed start stop next) h = rw (sym (equal-true name-key (part s start stop) h)) refl
  one_key (Other next) h = refl

  -- What an entry that is allowed makes of a judgement: its value is x, and its key is `name` (a) or `args` (b).
  record Taken (j k : Judged) (a b : Bool) (x : Option Item) : Type 0 where
    name : k.name ≡ option_or j.name (cond a x None)
    args : k.args ≡ option_or j.args (cond b x None)
    double : k.double ≡ (j.double || (b && has_double s x))
    name_there : a ≡ true → There x
    args_there : b ≡ true → There x

  keys_step : (j : Judged) (x : Option Item) (t : Bool) → with_keys j x (cond t Double Single) ≡ Some (record j { args = option_or j.args x; double = j.double || t })
  keys_step j x true = rw (or-true j.double)
  keys_step j x false = rw (or-false j.double)

  args_step : (j : Judged) (x : Option Item) (n at : ℕ) → x ≡ Some (Map n at) → all is_keyed (entries s 6 n at) ≡ true
      → with_args s j x ≡ Some (record j { args = option_or j.args x; double = j.double || has_double s x })
  unfolding keys_of
  args_step j x n at e h = rw (e, h) (keys_step j (Some (Map n at)) (twice (contents s (entries s 6 n at))))

  by_tests : (j : Judged) (a b c : Bool) (x : Option Item) → (a ≡ true → b ≡ false) → cond a (is_name x) (cond b (is_args s x) (cond c (is_map x) false)) ≡ true
      → (k : Judged) × (cond a (with_name j x) (cond b (with_args s j x) (cond c (with_redirect j x) None)) ≡ Some k) × Taken j k a b x
  unfolding There
  by_tests j true true c x o ok = absurd (false≢true (sym (o refl)))
  by_tests j true false c x o ok = (
    record j { name = option_or j.name x },
    rw ok refl,
    record { name = refl; args = sym (or-none j.args); double = sym (or-false j.double); name_there = λ h. name-there x ok; args_there = λ h. absurd (false≢true h) },
  )
  by_tests j false true c x o ok =
      let m = args_map x ok in (
        record j { args = option_or j.args x; double = j.double || has_double s x },
        args_step j x m.0 m.1 m.2 m.3,
        record { name = sym (or-none j.name); args = refl; double = refl; name_there = λ h. absurd (false≢true h); args_there = λ h. (Map m.0 m.1, m.2) },
      )
  by_tests j false false true x o ok = (
    j,
    rw ok refl,
    record { name = sym (or-none j.name); args = sym (or-none j.args); double = sym (or-false j.double); name_there = λ h. absurd (false≢true h); args_there = λ h. absurd (false≢true h) },
  )
  by_tests j false false false x o ok = absurd (false≢true ok)

  takes : (j : Judged) (e : Entry) → allowed s e ≡ true
      → (k : Judged) × (judge s j e ≡ Some k) × Taken j k (has_key s name-key e) (has_key s args_key e) (value_item s e)
  unfolding judge allowed
  takes j e ok = by_tests j (has_key s name-key e) (has_key s args_key e) (has_key s redirect_key e) (value_item s e) (one_key e) ok

  -- an entry that is not allowed leaves none
  args_refused : (j : Judged) (x : Option Item) → is_args s x ≡ false → with_args s j x ≡ None
  unfolding keys_of
  args_refused j (Some (Unsigned n next)) h = refl
  args_refused j (Some (Negative n next)) h = refl
  args_refused j (Some (Bytes start stop)) h = refl
  args_refused j (Some (Simple next)) h = refl
  args_refused j (Some (Array n at)) h = refl
  args_refused j (Some (Map n at)) h = rw h refl
  args_refused j (Some (Set n at)) h = refl
  args_refused j None h = refl

  by_refusals : (j : Judged) (a b c : Bool) (x : Option Item) → cond a (is_name x) (cond b (is_args s x) (cond c (is_map x) false)) ≡ false
      → cond a (with_name j x) (cond b (with_args s j x) (cond c (with_redirect j x) None)) ≡ None
  by_refusals j true b c x h = rw h refl
  by_refusals j false true c x h = args_refused j x h
  by_refusals j false false true x h = rw h refl
  by_refusals j false false false x h = refl

  refuses : (j : Judged) (e : Entry) → allowed s e ≡ false → judge s j e ≡ None
  unfolding judge allowed
  refuses j e h = by_refusals j (has_key s name-key e) (has_key s args_key e) (has_key s redirect_key e) (value_item s e) h

  -- the value under a key of an entry and others
  value-more : (key : List ℕ) (e : Entry) (es : List Entry) → (has_key s key e ≡ true → There (value_item s e))
      → value_under s key (e ∷ es) ≡ option_or (cond (has_key s key e) (value_item s e) None) (value_under s key es)
  unfolding value_under find
  value-more key e es t = by (has_key s key e) t
    where
      by : (b : Bool) → (b ≡ true → There (value_item s e))
          → value_found s (cond b (Some e) (find s key es)) ≡ option_or (cond b (value_item s e) None) (value_found s (find s key es))
      by true t = sym (or-first (value_item s e) _ (t refl))
      by false t = refl

  or-value : (o : Option Item) (key : List ℕ) → o ≡ option_or o (value_under s key [])
  unfolding value_under find
  or-value o key = sym (or-none o)

  or-more : (o : Option Item) (key : List ℕ) (e : Entry) (es : List Entry) → (has_key s key e ≡ true → There (value_item s e))
      → option_or (option_or o (cond (has_key s key e) (value_item s e) None)) (value_under s key es) ≡ option_or o (value_under s key (e ∷ es))
  or-more o key e es t = first_of o _ _ ∙ ap (option_or o) (sym (value-more key e es t))

  -- What entries that are allowed make of a judgement: the first `name` and the first `args`, and whether a key stands twice in an `args`.
  record Judges (j k : Judged) (es : List Entry) : Type 0 where
    name : k.name ≡ option_or j.name (value_under s name-key es)
    args : k.args ≡ option_or j.args (value_under s args_key es)
    double : k.double ≡ (j.double || any (args_double s) es)

  judges : (j : Judged) (es : List Entry) → all (allowed s) es ≡ true → (k : Judged) × (foldl (judge_next s) (Some j) es ≡ Some k) × Judges j k es
  unfolding all any args_double
  judges j [] ok = (j, refl, record { name = or-value j.name name-key; args = or-value j.args args_key; double = sym (or-false j.double) })
  judges j (e ∷ es) ok =
      let t = takes j e (and_left (allowed s e) _ ok) in
      let r = judges t.0 es (and_right (allowed s e) _ ok) in (
        r.0,
        rw t.1 r.1,
        record {
          name = r.2.name ∙ ap (λ o. option_or o (value_under s name-key es)) t.2.name ∙ or-more j.name name-key e es t.2.name_there;
          args = r.2.args ∙ ap (λ o. option_or o (value_under s args_key es)) t.2.args ∙ or-more j.args args_key e es t.2.args_there;
          double = r.2.double ∙ ap (λ b. b || any (args_double s) es) t.2.double ∙ or_assoc j.double _ _;
        },
      )

  -- by what `and_then` answers
  pub next-judged : (o r : Option Judged) (e : Entry) → MatchOption o (r ≡ None) (λ j. r ≡ judge s j e) → r ≡ judge_next s o e
  next-judged None r e h = h
  next-judged (Some j) r e h = h

  none-stays : (es : List Entry) → foldl (judge_next s) None es ≡ None
  none-stays [] = refl
  none-stays (e ∷ es) = none-stays es

  judges-none : (j : Judged) (es : List Entry) → all (allowed s) es ≡ false → foldl (judge_next s) (Some j) es ≡ None
  unfolding all
  judges-none j [] h = absurd (false≢true (sym h))
  judges-none j (e ∷ es) h = by (allowed s e) refl h (λ k. judges-none k es)
    where
      by : (b : Bool) → allowed s e ≡ b → (b && all (allowed s) es) ≡ false → ((k : Judged) → all (allowed s) es ≡ false → foldl (judge_next s) (Some k) es ≡ None)
          → foldl (judge_next s) (judge s j e) es ≡ None
      by true ok n rest = let t = takes j e ok in rw t.1 (rest t.0 n)
      by false ok n rest = rw (refuses j e ok) (none-stays es)

  -- there is a judgement exactly where there was one before and every entry is allowed
  pub all-allowed : (o : Option Judged) (es : List Entry) → is_some (foldl (judge_next s) o es) ≡ (is_some o && all (allowed s) es)
  all-allowed None es = rw (none-stays es)
  all-allowed (Some j) es = by (all (allowed s) es) refl
    where
      by : (b : Bool) → all (allowed s) es ≡ b → is_some (foldl (judge_next s) (Some j) es) ≡ all (allowed s) es
      by true e = rw (e, (judges j es e).1)
      by false e = rw (e, judges-none j es e)

  -- the command map, by the judgement and by whether a key stands twice in it
  double_too : (t d : Bool) (c : Command) → ◌≡◌ {A = Checked} (cond (t || d) (Err DoubleKey) (Ok c)) (also_double t (cond d (Err DoubleKey) (Ok c)))
  double_too true true c = refl
  double_too true false c = refl
  double_too false true c = refl
  double_too false false c = refl

  pub judgement_holds : JudgementHolds s
  unfolding map_of double
  judgement_holds es = by (all (allowed s) es) refl
    where
      by : (b : Bool) → all (allowed s) es ≡ b → map_of s es ≡ also_double (twice (contents s es)) (command_of (judged s es))
      by false h = rw (judges-none none_judged es h, h)
      by true h =
          let f = judges none_judged es h in
          rw (h, f.1, f.2.name, f.2.args, f.2.double)
          (after-bytes (also_double (twice (contents s es))) (value_under s name-key es) _ (Err NotCommand) _ (Err NotCommand)
          (λ start stop. double_too (twice (contents s es)) (any (args_double s) es) (command_with start stop (value_under s args_key es))) refl)

  -- by what the walk answers
  pub walked-to : (n at : ℕ) (starts stops : List ℕ) (o : Option Fields) (f : Fields) → o ≡ Some f → Walked s n at starts stops o → WalkedTo s n at starts stops f
  walked-to n at starts stops o f e w = rw e at w

  -- the check of a map that ends where the bytes do, by what the walk over it left
  pub map_whole : (n at : ℕ) (starts stops : List ℕ) (f : Fields) → WalkedTo s n at starts stops f → f.end ≡ length s → map_checked s n at ≡ also_double (twice (contents s (entries s 7 n at))) (command_of f.judged)
  unfolding map_checked
  map_whole n at starts stops f w h = rw (← w.ends, eq-eqb f.end (length s) h, judgement_holds, ← w.all)
