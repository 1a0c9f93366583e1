-- A map's entries behind a prefix: they stand that many places further on, and their keys' contents are the same.
-- Assumes nothing.
use Rattle.std.specs.Prelude.{Option, None, Some}
use mathlib.Core.Path.{◌≡◌, refl, ap}
use mathlib.Core.List.{List, [], ◌∷◌, ◌++◌, map}
use Prim.Native.Nat.{ℕ, zero, suc, ◌+◌, ◌-◌}
use native.Mathlib.Omega.{arith}
use lib.ListN.{length}
use lib.Seq.{drop-append-add}
use Rattle.cbor.specs.declared.Item.{Item}
use Rattle.cbor.specs.declared.Item.TheVariants.{Unsigned, Negative, Bytes, Simple, Array, Map, Set}
use Rattle.cbor.specs.Cbor.{Reader, item_at}
use Rattle.cbor.proofs.Shift.{shifted, shifted_item, item_shift, Shifts, value_shifts, of_both}
use Rattle.keys.specs.Keys.{part, equal, twice}
use Rattle.entries.specs.declared.Entry.{Entry}
use Rattle.entries.specs.declared.Entry.TheVariants.{Keyed, Other}
use Rattle.entries.specs.Entries.{all, is_keyed, next_of, keyed, other, entry_of, onward, entry_at, entries, contents, has_key, find}

abbrev pub shifted_entry : ℕ → Entry → Entry
shifted_entry n (Keyed start stop next) = Keyed (n + start) (n + stop) (n + next)
shifted_entry n (Other next) = Other (n + next)

-- the same of one, if one was read or found
abbrev pub shifted_some : ℕ → Option Entry → Option Entry
shifted_some n None = None
shifted_some n (Some e) = Some (shifted_entry n e)

module _ (p s : List ℕ) where
  abbrev past : ℕ
  past = length p

  keyed_shift : (start stop : ℕ) (x : Option ℕ) → keyed (past + start) (past + stop) (shifted past x) ≡ shifted_some past (keyed start stop x)
  keyed_shift start stop (Some q) = refl
  keyed_shift start stop None = refl

  other_shift : (x : Option ℕ) → other (shifted past x) ≡ shifted_some past (other x)
  other_shift (Some q) = refl
  other_shift None = refl

  entry_of_shift : {r' r : Reader} → Shifts p s r' r → (x : Option Item) → entry_of r' (shifted_item past x) ≡ shifted_some past (entry_of r x)
  entry_of_shift {r} h (Some (Unsigned n next)) = rw (h.shift next) (other_shift (r next))
  entry_of_shift {r} h (Some (Negative n next)) = rw (h.shift next) (other_shift (r next))
  entry_of_shift {r} h (Some (Bytes start stop)) = rw (h.shift stop) (keyed_shift start stop (r stop))
  entry_of_shift {r} h (Some (Simple next)) = rw (h.shift next) (other_shift (r next))
  entry_of_shift h (Some (Array n at)) = refl
  entry_of_shift h (Some (Map n at)) = refl
  entry_of_shift h (Some (Set n at)) = refl
  entry_of_shift h None = refl

  pub entry_shift : (levels at : ℕ) → entry_at (p ++ s) levels (past + at) ≡ shifted_some past (entry_at s levels at)
  unfolding entry_at
  entry_shift levels at = rw (item_shift p s at) (entry_of_shift (value_shifts p s levels) (item_at s at))

  next_shift : (e : Entry) → next_of (shifted_entry past e) ≡ past + next_of e
  next_shift (Keyed start stop next) = refl
  next_shift (Other next) = refl

  onward_shift : (e : Option Entry) (rest' rest : ℕ → List Entry) → ((at : ℕ) → rest' (past + at) ≡ map (shifted_entry past) (rest at)) → onward (shifted_some past e) rest' ≡ map (shifted_entry past) (onward e rest)
  onward_shift None rest' rest h = refl
  onward_shift (Some e) rest' rest h = rw (next_shift e) (ap (λ (l : List Entry). shifted_entry past e ∷ l) (h (next_of e)))

  pub entries_shift : (levels n at : ℕ) → entries (p ++ s) levels n (past + at) ≡ map (shifted_entry past) (entries s levels n at)
  unfolding entries
  entries_shift levels zero at = refl
  entries_shift levels (suc n) at = rw (entry_shift levels at) (onward_shift (entry_at s levels at) (entries (p ++ s) levels n) (entries s levels n) (entries_shift levels n))

  pub part_shift : (start stop : ℕ) → part (p ++ s) (past + start) (past + stop) ≡ part s start stop
  unfolding part
  part_shift start stop =
      let e : past + stop - (past + start) ≡ stop - start = omega arith in
      rw (e, drop-append-add p s start)

  -- the same contents
  contents-more_shift : (e : Entry) (es : List Entry) → contents (p ++ s) (map (shifted_entry past) es) ≡ contents s es → contents (p ++ s) (map (shifted_entry past) (e ∷ es)) ≡ contents s (e ∷ es)
  unfolding contents
  contents-more_shift (Keyed start stop next) es h = rw (part_shift start stop, h)
  contents-more_shift (Other next) es h = h

  pub contents_shift : (es : List Entry) → contents (p ++ s) (map (shifted_entry past) es) ≡ contents s es
  unfolding contents
  contents_shift [] = refl
  contents_shift (e ∷ es) = contents-more_shift e es (contents_shift es)

  key_shift : (key : List ℕ) (e : Entry) → has_key (p ++ s) key (shifted_entry past e) ≡ has_key s key e
  key_shift key (Keyed start stop next) = ap (equal key) (part_shift start stop)
  key_shift key (Other next) = refl

  pub find_shift : (key : List ℕ) (es : List Entry) → find (p ++ s) key (map (shifted_entry past) es) ≡ shifted_some past (find s key es)
  unfolding find
  find_shift key [] = refl
  find_shift key (e ∷ es) = rw (key_shift key e) (of_both (shifted_some past) (has_key s key e) refl (find_shift key es))

  keyed-entry_shift : (e : Entry) → is_keyed (shifted_entry past e) ≡ is_keyed e
  keyed-entry_shift (Keyed start stop next) = refl
  keyed-entry_shift (Other next) = refl

  pub all-keyed_shift : (es : List Entry) → all is_keyed (map (shifted_entry past) es) ≡ all is_keyed es
  unfolding all
  all-keyed_shift [] = refl
  all-keyed_shift (e ∷ es) = rw (keyed-entry_shift e, all-keyed_shift es)

  pub twice_shift : (es : List Entry) → twice (contents (p ++ s) (map (shifted_entry past) es)) ≡ twice (contents s es)
  twice_shift es = ap twice (contents_shift es)
