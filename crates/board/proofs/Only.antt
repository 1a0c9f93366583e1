-- A command with two arguments, found under two different keys, has no other; one with none has none under any key.
-- Assumes nothing.
use Prim.Native.Nat.{ℕ, zero, suc, ◌≤◌}
use mathlib.Core.Path.{◌≡◌, refl, sym, ap, ◌∙◌}
use mathlib.Core.Bool.{Bool, true, false, cond, false≢true}
use Rattle.std.specs.Prelude.{Option, Some, None, Ok, Err}
use Rattle.std.proofs.lemmas.Bool.{or_parts}
use mathlib.Core.List.{List, [], ◌∷◌}
use native.Mathlib.Omega.{arith}
use lib.ListN.{length}
use Rattle.keys.specs.Keys.{equal, among}
use Rattle.keys.proofs.Equal.{equal-true, equal-refl}
use Rattle.entries.specs.declared.Entry.{Entry}
use Rattle.entries.specs.declared.Entry.TheVariants.{Keyed, Other}
use Rattle.entries.specs.Entries.{is_keyed, next_of, onward, entry_at, entries, has_key, find}
use Rattle.command_map.specs.declared.Refusal.TheVariants.{NotItem, NotCommand, DoubleKey}
use Rattle.command_map.specs.CommandMap.{Checked}
use Rattle.command.specs.declared.LookupError.TheVariants.{Absent}
use Rattle.command.specs.Command.{checked, if_command, number_of}
use Rattle.command.specs.Lookup.{place_of, place_in, place_number, count_of, argument_at}
use Rattle.board.specs.Laws.{Only}

-- an entry is there, and its key is a byte string
abbrev has_content : Option Entry → Bool
has_content (Some e) = is_keyed e
has_content None = false

module _ (s : List ℕ) where
  -- ---- an entry has one key

  one_key : (k l : List ℕ) (e : Entry) → has_key s k e ≡ true → has_key s l e ≡ true → equal k l ≡ true
  one_key k l (Keyed start stop next) h g = rw (equal-true k _ h, equal-true l _ g) (equal-refl _)
  one_key k l (Other next) h g = absurd (false≢true h)

  not-both : (k l : List ℕ) (e : Entry) → equal k l ≡ false → has_key s l e ≡ true → has_key s k e ≡ false
  not-both k l e n h = by (has_key s k e) refl
    where
      by : (t : Bool) → has_key s k e ≡ t → t ≡ false
      by true g = absurd (false≢true (sym n ∙ one_key k l e g h))
      by false g = refl

  -- ---- of at most two entries, two have the two keys

  last_found : (k : List ℕ) (e : Entry) → has_content (find s k (e ∷ [])) ≡ true → has_key s k e ≡ true
  unfolding find
  last_found k e h = by (has_key s k e) refl h
    where
      by : (t : Bool) → has_key s k e ≡ t → has_content (cond t (Some e) None) ≡ true → has_key s k e ≡ true
      by true g x = g
      by false g x = absurd (false≢true x)

  neither : (k : List ℕ) (e f : Entry) → has_key s k e ≡ false → has_key s k f ≡ false → find s k (e ∷ f ∷ []) ≡ None
  unfolding find
  neither k e f h g = rw (h, g)

  module _ (k l : List ℕ) (differ : equal k l ≡ false) where
    found-both : (es : List Entry) → length es ≤ 2 → has_content (find s k es) ≡ true → has_content (find s l es) ≡ true
        → (key : List ℕ) → equal key k ≡ false → equal key l ≡ false → find s key es ≡ None
    unfolding find
    found-both [] short h g key n m = refl
    found-both (e ∷ []) short h g key n m = absurd (false≢true (sym differ ∙ one_key k l e (last_found k e h) (last_found l e g)))
    found-both (e ∷ f ∷ []) short h g key n m = by (has_key s k e) (has_key s l e) refl refl h g
      where
        by : (t u : Bool) → has_key s k e ≡ t → has_key s l e ≡ u → has_content (cond t (Some e) (find s k (f ∷ []))) ≡ true → has_content (cond u (Some e) (find s l (f ∷ []))) ≡ true
            → find s key (e ∷ f ∷ []) ≡ None
        by true true x y p q = absurd (false≢true (sym differ ∙ one_key k l e x y))
        by true false x y p q = neither key e f (not-both key k e n x) (not-both key l f m (last_found l f q))
        by false true x y p q = neither key e f (not-both key l e m y) (not-both key k f n (last_found k f p))
        by false false x y p q = absurd (false≢true (sym differ ∙ one_key k l f (last_found k f p) (last_found l f q)))
    found-both (e ∷ f ∷ g ∷ es) short h i key n m = absurd (omega arith)

  entries-most : (n at : ℕ) → length (entries s 6 n at) ≤ n
  unfolding entries
  entries-most zero at = omega arith
  entries-most (suc n) at = by (entry_at s 6 at) (λ next. entries-most n next)
    where
      by : (e : Option Entry) → ((next : ℕ) → length (entries s 6 n next) ≤ n) → length (onward e (entries s 6 n)) ≤ suc n
      by (Some e) rest = let h = rest (next_of e) in omega arith
      by None rest = omega arith

  -- ---- the same of a command

  found-keyed : (e : Option Entry) → place_number (place_of e) ≡ 0 → has_content e ≡ true
  found-keyed (Some (Keyed start stop next)) h = refl
  found-keyed (Some (Other next)) h = absurd (omega arith)
  found-keyed None h = absurd (omega arith)

  abbrev count_in : Checked → ℕ
  count_in c = if_command c (λ start stop count first. count) (λ n. 0)

  two_in : (c : Checked) (k l : List ℕ) → equal k l ≡ false → count_in c ≡ 2 → place_number (place_in s c k) ≡ 0 → place_number (place_in s c l) ≡ 0
      → (key : List ℕ) → among (k ∷ l ∷ []) key ≡ false → place_in s c key ≡ Err Absent
  unfolding among
  two_in (Ok c) k l d n h g key m =
      let es : List Entry = entries s 6 c.count c.first in
      let most : length es ≤ c.count = entries-most c.count c.first in
      let o = or_parts (equal key k) _ m in
      let p = or_parts (equal key l) _ o.1 in
      ap place_of (found-both k l d es (omega arith) (found-keyed (find s k es) h) (found-keyed (find s l es) g) key o.0 p.0)
  two_in (Err x) k l d n h g key m = absurd (omega arith)

  none_in : (c : Checked) → number_of c ≡ 0 → count_in c ≡ 0 → (key : List ℕ) → place_in s c key ≡ Err Absent
  unfolding entries find
  none_in (Ok c) z n key = rw n
  none_in (Err NotItem) z n key = absurd (omega arith)
  none_in (Err NotCommand) z n key = absurd (omega arith)
  none_in (Err DoubleKey) z n key = absurd (omega arith)

  pub only_two : (k l : List ℕ) → equal k l ≡ false → count_of s ≡ 2 → place_number (argument_at s k) ≡ 0 → place_number (argument_at s l) ≡ 0 → Only s (k ∷ l ∷ [])
  unfolding count_of argument_at
  only_two k l d n h g = record { others = two_in (checked s) k l d n h g }

  pub only_none : number_of (checked s) ≡ 0 → count_of s ≡ 0 → Only s []
  unfolding count_of argument_at
  only_none z n = record { others = λ key m. none_in (checked s) z n key }
