-- Mercurial's CBOR subset (RFC 7049 underneath), as document 01, "Command bytes", states it. A reader takes a position in the list of
-- bytes to the position after what it reads, or refuses. A position past the end holds nothing to read.
-- These are definitions: they assume nothing.
use Rattle.std.specs.Prelude.{ℕ, zero, suc, ◌+◌, ◌-◌, ◌*◌, ◌/◌, ◌%◌, ◌^◌, ◌≡◌, List, Option, None, Some, Bool, true, false, cond, length, get_or, ltb, leb, eqb}
use Rattle.cbor.specs.declared.Head.{Head}
use Rattle.cbor.specs.declared.Item.{Item}
use Rattle.cbor.specs.declared.Item.TheVariants.{Unsigned, Negative, Bytes, Simple, Array, Map, Set}

abbrev pub Reader : Type 0
Reader = ℕ → Option ℕ

-- what a reader in the code answers is what r reads
abbrev pub Reads : (ℕ → Option ℕ → Type 0) → Reader → Type 0
Reads answers r = (p : ℕ) (x : Option ℕ) → answers p x → x ≡ r p

-- go on at the position reached
abbrev pub and_then : Option ℕ → Reader → Option ℕ
and_then None r = None
and_then (Some p) r = r p

-- n times, one after the other
unfoldable pub repeat : ℕ → Reader → Reader
repeat zero r at = Some at
repeat (suc n) r at = and_then (r at) (repeat n r)

-- how many bytes follow a head's first byte: none below 24; 1, 2, 4, 8 at 24 to 27
unfoldable pub width : ℕ → ℕ
width info = cond (ltb info 24) 0 (2 ^ (info - 24))

-- RFC 7049's rule for integers and lengths, and so for tags: the low five bits of the shortest head's first byte are the number itself
-- below 24, else 24 to 27 for 1, 2, 4 or 8 bytes that follow
unfoldable pub shortest : ℕ → ℕ
shortest n = cond (ltb n 24) n (cond (ltb n 256) 24 (cond (ltb n 65536) 25 (cond (ltb n 4294967296) 26 27)))

-- a head is the shortest for its number (E5)
abbrev pub is_shortest : Option Head → Bool
is_shortest None = true
is_shortest (Some h) = eqb h.info (shortest h.value)

-- false, true, null: one byte each
abbrev pub simple : ℕ → ℕ → Option Item
simple info next = cond (leb 20 info) (cond (leb info 22) (Some (Simple next)) None) None

-- a set: tag 258 before an array
abbrev pub set_of : Option Head → Option Item
set_of None = None
set_of (Some h) = cond (eqb h.major 4) (Some (Set h.value h.next)) None

-- map keys and set members: integers, byte strings, false, true, null
abbrev pub scalar_of : Option Item → Option ℕ
scalar_of (Some (Unsigned n next)) = Some next
scalar_of (Some (Negative n next)) = Some next
scalar_of (Some (Bytes start next)) = Some next
scalar_of (Some (Simple next)) = Some next
scalar_of (Some (Array n at)) = None
scalar_of (Some (Map n at)) = None
scalar_of (Some (Set n at)) = None
scalar_of None = None

module _ (s : List ℕ) where
  -- the number in n bytes from a position on, the highest first
  unfoldable pub big_endian : ℕ → ℕ → ℕ
  big_endian at zero = 0
  big_endian at (suc n) = big_endian at n * 256 + get_or s (at + n) 0

  -- a head's value: the low five bits of its first byte where they are below 24, else the number in the bytes that follow
  unfoldable pub head_value : ℕ → ℕ → ℕ
  head_value at info = cond (ltb info 24) info (big_endian (at + 1) (width info))

  -- A head: the major type in the first byte's high three bits, then its value. 28 to 31 are refused, and so are bytes missing.
  -- Any width will do: heads needn't be shortest, and `is_shortest` tells whether one is.
  unfoldable pub head_of : ℕ → ℕ → ℕ → Option Head
  head_of at major info =
      cond (leb 28 info) None
      (cond (ltb (length s) (at + 1 + width info)) None
      (Some (record { major = major; info = info; value = head_value at info; next = at + 1 + width info })))

  unfoldable pub head_at : ℕ → Option Head
  head_at at = head_of at (get_or s at 0 / 32) (get_or s at 0 % 32)

  -- the position behind n bytes from a position on; one past the end where there are fewer
  unfoldable pub end_of : ℕ → ℕ → ℕ
  end_of from n = cond (ltb (length s) (from + n)) (suc (length s)) (from + n)

  -- a byte string of n bytes
  unfoldable pub bytes_at : ℕ → ℕ → Option Item
  bytes_at n at = cond (ltb (length s) (at + n)) None (Some (Bytes at (at + n)))

  -- what a tag stands before: every tag but 258 is refused
  unfoldable pub tagged : ℕ → ℕ → Option Item
  tagged number at = cond (eqb number 258) (set_of (head_at at)) None

  -- an item, by its major type; 3, text, is refused
  abbrev pub item_of : Option Head → Option Item
  item_of None = None
  item_of (Some h) =
      cond (eqb h.major 0) (Some (Unsigned h.value h.next))
      (cond (eqb h.major 1) (Some (Negative h.value h.next))
      (cond (eqb h.major 2) (bytes_at h.value h.next)
      (cond (eqb h.major 4) (Some (Array h.value h.next))
      (cond (eqb h.major 5) (Some (Map h.value h.next))
      (cond (eqb h.major 6) (tagged h.value h.next)
      (cond (eqb h.major 7) (simple h.info h.next) None))))))

  unfoldable pub item_at : ℕ → Option Item
  item_at at = item_of (head_at at)

  -- a map's key or a set's member
  unfoldable pub key : Reader
  key at = scalar_of (item_at at)

  -- a map's key, and its value by r
  unfoldable pub pair : Reader → Reader
  pair r at = and_then (key at) r

  -- an item whose elements r reads
  abbrev pub value_of : Reader → Option Item → Option ℕ
  value_of r (Some (Unsigned n next)) = Some next
  value_of r (Some (Negative n next)) = Some next
  value_of r (Some (Bytes start next)) = Some next
  value_of r (Some (Simple next)) = Some next
  value_of r (Some (Array n at)) = repeat n r at
  value_of r (Some (Map n at)) = repeat n (pair r) at
  value_of r (Some (Set n at)) = repeat n key at
  value_of r None = None

  -- a value in which containers nest at most so many levels deep; a set is one level
  unfoldable pub value : ℕ → Reader
  value zero at = key at
  value (suc levels) at = value_of (value levels) (item_at at)

  -- a reader came to the end: no bytes are left over
  abbrev pub whole : Option ℕ → Bool
  whole None = false
  whole (Some p) = eqb p (length s)

  -- one item of the subset: eight levels of containers, the outermost is the first
  unfoldable pub is_item : Bool
  is_item = whole (value 8 0)

-- A byte string's start and stop, or a map's count and the position of its first key, go to f; any other item gives d.
abbrev pub if_bytes : {A : Type 0} → Option Item → (ℕ → ℕ → A) → A → A
if_bytes (Some (Unsigned n next)) f d = d
if_bytes (Some (Negative n next)) f d = d
if_bytes (Some (Bytes start stop)) f d = f start stop
if_bytes (Some (Simple next)) f d = d
if_bytes (Some (Array n at)) f d = d
if_bytes (Some (Map n at)) f d = d
if_bytes (Some (Set n at)) f d = d
if_bytes None f d = d

abbrev pub if_map : {A : Type 0} → Option Item → (ℕ → ℕ → A) → A → A
if_map (Some (Unsigned n next)) f d = d
if_map (Some (Negative n next)) f d = d
if_map (Some (Bytes start stop)) f d = d
if_map (Some (Simple next)) f d = d
if_map (Some (Array n at)) f d = d
if_map (Some (Map n at)) f d = f n at
if_map (Some (Set n at)) f d = d
if_map None f d = d
