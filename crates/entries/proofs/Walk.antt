-- Walking a map's entries: an entry is the pair that the reader of maps reads, and a step takes one entry off the front of the list.
-- What a list's tests give then follows by the list's own definitions.
-- Assumes nothing.
use Rattle.std.specs.Prelude.{Option, None, Some, is_some}
use mathlib.Core.Path.{◌≡◌, refl, sym, ◌∙◌}
use mathlib.Core.Bool.{Bool, true, false, cond, ◌||◌}
use mathlib.Core.List.{List, [], ◌∷◌, ◌++◌}
use Prim.Native.Nat.{ℕ, zero, suc, ◌-◌, ◌<◌}
use native.Mathlib.Nat.{not-suc-le-zero}
use native.Mathlib.Numerals.{sub-one}
use Rattle.cbor.specs.declared.Item.{Item}
use Rattle.cbor.specs.declared.Item.TheVariants.{Unsigned, Negative, Bytes, Simple, Array, Map, Set}
use Rattle.cbor.specs.Cbor.{Reader, and_then, scalar_of, item_at, key, pair, value}
use Rattle.keys.specs.Keys.{part, equal, among, twice}
use Rattle.entries.specs.declared.Entry.{Entry}
use Rattle.entries.specs.declared.Entry.TheVariants.{Keyed, Other}
use Rattle.entries.specs.Entries.{next_of, keyed, other, entry_of, onward, entry_at, entries, contents, has_key, again, find}

-- where an entry ends, if one was read
abbrev pub end_of : Option Entry → Option ℕ
end_of None = None
end_of (Some e) = Some (next_of e)

next-keyed : (start stop : ℕ) (x : Option ℕ) → end_of (keyed start stop x) ≡ x
next-keyed start stop (Some q) = refl
next-keyed start stop None = refl

next-other : (x : Option ℕ) → end_of (other x) ≡ x
next-other (Some q) = refl
next-other None = refl

next-entry : (r : Reader) (x : Option Item) → end_of (entry_of r x) ≡ and_then (scalar_of x) r
next-entry r (Some (Unsigned n next)) = next-other (r next)
next-entry r (Some (Negative n next)) = next-other (r next)
next-entry r (Some (Bytes start stop)) = next-keyed start stop (r stop)
next-entry r (Some (Simple next)) = next-other (r next)
next-entry r (Some (Array n at)) = refl
next-entry r (Some (Map n at)) = refl
next-entry r (Some (Set n at)) = refl
next-entry r None = refl

module _ (s : List ℕ) (l : ℕ) where
  -- an entry ends where the pair at its position does
  pub entry-pair : (p : ℕ) → pair s (value s l) p ≡ end_of (entry_at s l p)
  unfolding pair key entry_at
  entry-pair p = sym (next-entry (value s l) (item_at s p))

  more : (n p : ℕ) → 0 < n → entries s l n p ≡ onward (entry_at s l p) (entries s l (n - 1))
  unfolding entries
  more zero p h = absurd (not-suc-le-zero h)
  more (suc n) p h = rw sub-one

  pub ends : (n p : ℕ) → n ≡ 0 → entries s l n p ≡ []
  unfolding entries
  ends n p h = rw h

  -- by what `read_entry` answers
  pub breaks : (n p : ℕ) → 0 < n → None ≡ entry_at s l p → entries s l n p ≡ []
  breaks n p h k = more n p h ∙ rw (← k)

  pub goes : (n p : ℕ) (e : Entry) → 0 < n → Some e ≡ entry_at s l p → entries s l n p ≡ e ∷ entries s l (n - 1) (next_of e)
  goes n p e h k = more n p h ∙ rw (← k)

-- the keys' contents of a list of entries, by its first
module _ (s : List ℕ) where
  pub contents-more : (e : Entry) (es : List Entry) → contents s (e ∷ es) ≡ contents s (e ∷ []) ++ contents s es
  unfolding contents
  contents-more (Keyed start stop next) es = refl
  contents-more (Other next) es = refl

  -- a key stands among the contents exactly if an entry with it is found
  found_among : (k : List ℕ) (e : Entry) (es : List Entry) → among (contents s es) k ≡ is_some (find s k es) → among (contents s (e ∷ es)) k ≡ is_some (cond (has_key s k e) (Some e) (find s k es))
  unfolding contents among
  found_among k (Keyed start stop next) es h = by (equal k (part s start stop))
    where
      by : (b : Bool) → (b || among (contents s es) k) ≡ is_some (cond b (Some (Keyed start stop next)) (find s k es))
      by true = refl
      by false = h
  found_among k (Other next) es h = h

  pub among-find : (k : List ℕ) (es : List Entry) → among (contents s es) k ≡ is_some (find s k es)
  unfolding contents among find
  among-find k [] = refl
  among-find k (e ∷ es) = found_among k e es (among-find k es)

  -- a key stands twice in a list if its first key stands again in the rest, or one stands twice there
  pub twice-more : (e : Entry) (es : List Entry) → twice (contents s (e ∷ es)) ≡ (again s e es || twice (contents s es))
  unfolding contents twice
  twice-more (Keyed start stop next) es = refl
  twice-more (Other next) es = refl
