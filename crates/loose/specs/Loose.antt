-- Loosely written values, as document 02, E5, states them: one of the heads is not the shortest for its number. The recursion is that of
-- `value`: the heads of an item, then those of its elements, each at the position where the one before it ends.
-- These are definitions: they assume nothing.
use Rattle.std.specs.Prelude.{ℕ, zero, suc, List, Bool, false, ◌&&◌, ◌||◌, not, eqb, Option, None, Some}
use Rattle.cbor.specs.declared.Head.{Head}
use Rattle.cbor.specs.declared.Item.{Item}
use Rattle.cbor.specs.declared.Item.TheVariants.{Unsigned, Negative, Bytes, Simple, Array, Map, Set}
use Rattle.cbor.specs.Cbor.{Reader, is_shortest, head_at, item_at, key, pair, value}

-- what is asked of a position
abbrev pub Question : Type 0
Question = ℕ → Bool

-- of the position reached, if one is
abbrev pub onward : Option ℕ → Question → Bool
onward None q = false
onward (Some p) q = q p

-- of any of n, one after the other, which r reads
unfoldable pub any_of : ℕ → Reader → Question → Question
any_of zero r q at = false
any_of (suc n) r q at = q at || onward (r at) (any_of n r q)

module _ (s : List ℕ) where
  -- an item's heads: a tag's is followed by that of what it stands before
  abbrev pub loose_heads : Option Head → Bool
  loose_heads None = false
  loose_heads (Some h) = not (is_shortest (Some h)) || eqb h.major 6 && not (is_shortest (head_at s h.next))

  unfoldable pub loose_item : Question
  loose_item at = loose_heads (head_at s at)

  -- a map's key, and its value by q
  unfoldable pub loose_pair : Question → Question
  loose_pair q at = loose_item at || onward (key s at) q

  -- the elements of an item, which r reads
  abbrev pub loose_elements : Reader → Question → Option Item → Bool
  loose_elements r q (Some (Unsigned n next)) = false
  loose_elements r q (Some (Negative n next)) = false
  loose_elements r q (Some (Bytes start next)) = false
  loose_elements r q (Some (Simple next)) = false
  loose_elements r q (Some (Array n at)) = any_of n r q at
  loose_elements r q (Some (Map n at)) = any_of n (pair s r) (loose_pair q) at
  loose_elements r q (Some (Set n at)) = any_of n (key s) loose_item at
  loose_elements r q None = false

  -- a value in which containers nest at most so many levels deep
  unfoldable pub loose : ℕ → Question
  loose zero at = loose_item at
  loose (suc levels) at = loose_item at || loose_elements (value s levels) (loose levels) (item_at s at)
