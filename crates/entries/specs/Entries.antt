-- The entries of a map, in order, and the contents of their keys.
-- These are definitions: they assume nothing.
use Rattle.std.specs.Prelude.{ℕ, zero, suc, List, [], ◌∷◌, Option, None, Some, Bool, true, false, cond, ◌&&◌, ◌||◌}
use Rattle.cbor.specs.declared.Item.{Item}
use Rattle.cbor.specs.declared.Item.TheVariants.{Unsigned, Negative, Bytes, Simple, Array, Map, Set}
use Rattle.cbor.specs.Cbor.{Reader, item_at, value}
use Rattle.keys.specs.Keys.{part, equal, among}
use Rattle.entries.specs.declared.Entry.{Entry}
use Rattle.entries.specs.declared.Entry.TheVariants.{Keyed, Other}

-- whether each, or one, of a list passes a test
unfoldable pub all : {A : Type 0} → (A → Bool) → List A → Bool
all p [] = true
all p (x ∷ l) = p x && all p l

unfoldable pub any : {A : Type 0} → (A → Bool) → List A → Bool
any p [] = false
any p (x ∷ l) = p x || any p l

-- an entry whose key is a byte string: the place of its content and the position after its value go to f; any other gives d
abbrev pub if_keyed : {A : Type 0} → Entry → (ℕ → ℕ → ℕ → A) → A → A
if_keyed (Keyed start stop next) f d = f start stop next
if_keyed (Other next) f d = d

-- the same of what was read; where it is no entry, it gives d too
abbrev pub if_read : {A : Type 0} → Option Entry → (ℕ → ℕ → ℕ → A) → A → A
if_read None f d = d
if_read (Some e) f d = if_keyed e f d

abbrev pub is_keyed : Entry → Bool
is_keyed e = if_keyed e (λ start stop next. true) false

-- the position after an entry
abbrev pub next_of : Entry → ℕ
next_of (Keyed start stop next) = next
next_of (Other next) = next

-- an entry by its key and by where its value ends
abbrev pub keyed : ℕ → ℕ → Option ℕ → Option Entry
keyed start stop None = None
keyed start stop (Some next) = Some (Keyed start stop next)

abbrev pub other : Option ℕ → Option Entry
other None = None
other (Some next) = Some (Other next)

abbrev pub entry_of : Reader → Option Item → Option Entry
entry_of r (Some (Unsigned n next)) = other (r next)
entry_of r (Some (Negative n next)) = other (r next)
entry_of r (Some (Bytes start stop)) = keyed start stop (r stop)
entry_of r (Some (Simple next)) = other (r next)
entry_of r (Some (Array n at)) = None
entry_of r (Some (Map n at)) = None
entry_of r (Some (Set n at)) = None
entry_of r None = None

-- the entry, then those that follow it; none where there is no entry
abbrev pub onward : Option Entry → (ℕ → List Entry) → List Entry
onward None rest = []
onward (Some e) rest = e ∷ rest (next_of e)

module _ (s : List ℕ) where
  -- the entry at a position, its value of at most so many levels
  unfoldable pub entry_at : ℕ → ℕ → Option Entry
  entry_at levels at = entry_of (value s levels) (item_at s at)

  -- n entries from a position on
  unfoldable pub entries : ℕ → ℕ → ℕ → List Entry
  entries levels zero at = []
  entries levels (suc n) at = onward (entry_at levels at) (entries levels n)

  -- the contents of the keys that are byte strings
  unfoldable pub contents : List Entry → List (List ℕ)
  contents [] = []
  contents (e ∷ es) = if_keyed e (λ start stop next. part s start stop ∷ contents es) (contents es)

  -- whether an entry's key stands again in others
  abbrev pub again : Entry → List Entry → Bool
  again e es = if_keyed e (λ start stop next. among (contents es) (part s start stop)) false

  -- whether an entry's key has this content
  abbrev pub has_key : List ℕ → Entry → Bool
  has_key key e = if_keyed e (λ start stop next. equal key (part s start stop)) false

  -- the first entry with this key
  unfoldable pub find : List ℕ → List Entry → Option Entry
  find key [] = None
  find key (e ∷ es) = cond (has_key key e) (Some e) (find key es)
