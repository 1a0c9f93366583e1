-- How the search in blocks goes: what the functions of blocks.rt answer. No public promise cites these.
use Rattle.std.specs.Prelude.{ℕ, ◌≤◌, ◌<◌, ◌≡◌, List, [], ◌∷◌, ◌++◌, Bool, false, ◌||◌, length, get_or}
use Rattle.std.specs.declared.cmp.Ordering.TheVariants.{Less}
use Rattle.keys.specs.Keys.{part, equal, among, twice}
use Rattle.keys.specs.Order.{compare}
use Rattle.entries.specs.declared.Entry.{Entry}
use Rattle.entries.specs.Entries.{if_keyed}
use Rattle.double_keys.specs.declared.walk.Entries.{Entries}
use Rattle.double_keys.specs.declared.blocks.Block.{Block}
use Rattle.double_keys.specs.Entries.{keys_to_come}
use Rattle.double_keys.specs.Row.{kept}
use Rattle.double_keys.specs.Search.{key_of, Places}

-- a row has n keys in order, the greatest first
pub record InOrder (s starts stops : List ℕ) (n : ℕ) (row : List ℕ) : Type 0 where
  pub in_s : Places s starts stops n
  pub room : n ≤ length row
  pub few : n ≤ 65536
  pub places : (t : ℕ) → t < n → get_or row t 0 < n
  pub falls : (t u : ℕ) → t < u → u < n → compare (key_of s starts stops (get_or row u 0)) (key_of s starts stops (get_or row t 0)) ≡ Less
  pub all : (x : List ℕ) → ((t : ℕ) → t < n → equal x (key_of s starts stops (get_or row t 0)) ≡ false) → (t : ℕ) → t < n → equal x (key_of s starts stops t) ≡ false

-- whether an entry's key stands among others
abbrev pub entry_among : List ℕ → List (List ℕ) → Entry → Bool
entry_among s ks e = if_keyed e (λ start stop next. among ks (part s start stop)) false

-- whether one of some keys stands among others
unfoldable pub meet : List (List ℕ) → List (List ℕ) → Bool
meet ks [] = false
meet ks (l ∷ ls) = among ks l || meet ks ls

-- whether a key of a block stands twice in it, or again in what follows
unfoldable pub block_double : List (List ℕ) → List (List ℕ) → Bool
block_double ks ls = twice ks || meet ks ls

-- a block taken from entries: its keys, and then those of the entries that follow it
pub record Blocked (all : Entries) (starts starts' stops' : List ℕ) (b : Block) : Type 0 where
  pub long : length starts' ≡ length starts
  pub in_s : Places all.s.now starts' stops' b.count
  pub same : keys_to_come all ≡ kept all.s.now starts' stops' b.count ++ keys_to_come b.rest
  pub same_s : b.rest.s.now ≡ all.s.now
  pub fewer : b.rest.left ≤ all.left
