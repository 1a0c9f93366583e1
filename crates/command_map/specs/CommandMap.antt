-- The command map, as document 01, "Command bytes", states it: the refusals 25 and 26, tried in that order.
-- Definitions on the list of a command's bytes: they assume nothing.
use Rattle.std.specs.Prelude.{ℕ, ◌-◌, List, [], ◌∷◌, Option, None, Some, Result, Ok, Err, Bool, true, false, cond, ◌&&◌, ◌||◌, leb}
use Rattle.cbor.specs.declared.Item.{Item}
use Rattle.cbor.specs.Cbor.{if_bytes, if_map, item_at, repeat, pair, value, whole}
use Rattle.keys.specs.Keys.{twice}
use Rattle.entries.specs.declared.Entry.{Entry}
use Rattle.entries.specs.Entries.{all, any, if_keyed, is_keyed, entries, contents, has_key, find}
use Rattle.command_map.specs.declared.Command.{Command}
use Rattle.command_map.specs.declared.Refusal.{Refusal}
use Rattle.command_map.specs.declared.Refusal.TheVariants.{NotItem, NotCommand, DoubleKey}

-- the check's answer: the command, or why the bytes are none
abbrev pub Checked : Type 0
Checked = Result Command Refusal

-- document 01's number of each refusal
abbrev pub refusal_number : Refusal → ℕ
refusal_number NotItem = 24
refusal_number NotCommand = 25
refusal_number DoubleKey = 26

-- `name`, `args`, `redirect`
abbrev pub name-key : List ℕ
name-key = 110 ∷ 97 ∷ 109 ∷ 101 ∷ []

abbrev pub args_key : List ℕ
args_key = 97 ∷ 114 ∷ 103 ∷ 115 ∷ []

abbrev pub redirect_key : List ℕ
redirect_key = 114 ∷ 101 ∷ 100 ∷ 105 ∷ 114 ∷ 101 ∷ 99 ∷ 116 ∷ []

-- a byte string of 1 to 64 bytes
abbrev pub is_name : Option Item → Bool
is_name x = if_bytes x (λ start stop. leb 1 (stop - start) && leb (stop - start) 64) false

-- a map
abbrev pub is_map : Option Item → Bool
is_map x = if_map x (λ n at. true) false

module _ (s : List ℕ) where
  -- a map with byte string keys; it is the second level, so its values have six
  abbrev pub is_args : Option Item → Bool
  is_args x = if_map x (λ n at. all is_keyed (entries s 6 n at)) false

  -- a map in which a key stands twice
  abbrev pub has_double : Option Item → Bool
  has_double x = if_map x (λ n at. twice (contents s (entries s 6 n at))) false

  -- an entry's value
  abbrev pub value_item : Entry → Option Item
  value_item e = if_keyed e (λ start stop next. item_at s stop) None

  -- 25: the keys are byte strings among `name`, `args` and `redirect`, each with its kind of value
  unfoldable pub allowed : Entry → Bool
  allowed e =
      cond (has_key s name-key e) (is_name (value_item e))
      (cond (has_key s args_key e) (is_args (value_item e))
      (cond (has_key s redirect_key e) (is_map (value_item e)) false))

  -- the value of the entry that was found
  abbrev pub value_found : Option Entry → Option Item
  value_found None = None
  value_found (Some e) = value_item e

  -- the first value under a key, none if the key does not occur
  unfoldable pub value_under : List ℕ → List Entry → Option Item
  value_under key es = value_found (find s key es)

  -- 26: a key twice in the outer map or in `args`
  unfoldable pub args_double : Entry → Bool
  args_double e = has_key s args_key e && has_double (value_item e)

  unfoldable pub double : List Entry → Bool
  double es = twice (contents s es) || any args_double es

-- the command with this name and these arguments; a missing `args` reads as an empty map (E1)
abbrev pub command_with : ℕ → ℕ → Option Item → Command
command_with start stop args =
    if_map args (λ n at. record { start = start; stop = stop; count = n; first = at }) (record { start = start; stop = stop; count = 0; first = 0 })

-- 25 unless every entry is allowed and `name` occurs (E1: `args` need not); then 26 if a key stands twice
abbrev pub answer : Bool → Option Item → Option Item → Bool → Checked
answer fits name args repeats =
    cond fits
    (if_bytes name (λ start stop.
    cond repeats (Err DoubleKey) (Ok (command_with start stop args))) (Err NotCommand)) (Err NotCommand)

-- the outer map, by its entries
unfoldable pub map_of : List ℕ → List Entry → Checked
map_of s es = answer (all (allowed s) es) (value_under s name-key es) (value_under s args_key es) (double s es)

-- the check of bytes that start with the head of a map of n entries, whose first stands at a position
unfoldable pub map_checked : List ℕ → ℕ → ℕ → Checked
map_checked s n at = cond (whole s (repeat n (pair s (value s 7)) at)) (map_of s (entries s 7 n at)) (Err NotItem)
