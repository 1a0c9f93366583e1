-- The name and the value of an argument are empty exactly where the call is refused: what the check and the search find is not empty and
-- ends within the command.
-- Assumes nothing.
use Rattle.std.specs.Prelude.{Option, None, Some, Result, Ok, Err}
use mathlib.Core.Path.{◌≡◌, refl, subst}
use mathlib.Core.Bool.{Bool, true, false, cond}
use mathlib.Core.List.{List, [], ◌∷◌}
use Prim.Native.Nat.{ℕ, zero, suc, ◌-◌, ◌≤◌, ◌<◌}
use native.Mathlib.Omega.{arith}
use lib.Dec.{leb, lit<}
use lib.ListN.{length, length-take, length-drop}
use borrow.Author.Tests.{leb-true}
use Rattle.cbor.specs.declared.Item.{Item}
use Rattle.cbor.specs.declared.Item.TheVariants.{Unsigned, Negative, Bytes, Simple, Array, Map, Set}
use Rattle.cbor.specs.Cbor.{Reader, item_at, value}
use Rattle.cbor.proofs.Ahead.{by_test, Ahead, Moves, Item-ahead, item-ahead, value-moves}
use Rattle.cbor.proofs.Folds.{by_map}
use Rattle.keys.specs.Keys.{part}
use Rattle.entries.specs.declared.Entry.{Entry}
use Rattle.entries.specs.declared.Entry.TheVariants.{Keyed, Other}
use Rattle.entries.specs.Entries.{all, keyed, other, entry_of, onward, entry_at, entries, has_key, find}
use Rattle.command_map.specs.declared.Refusal.TheVariants.{NotItem, NotCommand, DoubleKey}
use Rattle.command.specs.declared.Place.{Place}
use Rattle.command.specs.declared.LookupError.{LookupError}
use Rattle.command_map.specs.CommandMap.{Checked, name-key, args_key, is_name, value_item, value_found, allowed, value_under}
use Rattle.command.specs.Command.{checked, if_command, number_of}
use Rattle.command.specs.Lookup.{error_number, place_number, place_of, place_in, name_of, argument_at, part_at}
use Rattle.command.specs.Laws.{EmptyExactly, NameEmpty, ValueEmpty}
use Rattle.entries.proofs.Bools.{and_left, and_right}
use Rattle.command.proofs.Cases.{by-checked}

module _ (s : List ℕ) where
  -- what runs from start up to stop is not empty and lies within the command
  abbrev Lies : ℕ → ℕ → Type 0
  Lies start stop = (start < stop) × (stop ≤ length s)

  not_empty : (start stop : ℕ) → Lies start stop → 0 < length (part s start stop)
  unfolding part
  not_empty start stop l = simp (length-take, length-drop) (omega arith)

  -- an entry's value
  abbrev Value_lies : Option Entry → Type 0
  Value_lies (Some (Keyed start stop next)) = Lies stop next
  Value_lies (Some (Other next)) = Unit {0}
  Value_lies None = Unit {0}

  keyed_lies : (start stop : ℕ) (x : Option ℕ) → Ahead s stop x → Value_lies (keyed start stop x)
  keyed_lies start stop (Some next) a = a
  keyed_lies start stop None a = tt

  other_lies : (x : Option ℕ) → Value_lies (other x)
  other_lies (Some next) = tt
  other_lies None = tt

  entry_lies : (r : Reader) → Moves s r → (x : Option Item) → Value_lies (entry_of r x)
  entry_lies r m (Some (Unsigned n next)) = other_lies (r next)
  entry_lies r m (Some (Negative n next)) = other_lies (r next)
  entry_lies r m (Some (Bytes start stop)) = keyed_lies start stop (r stop) (m.ahead stop)
  entry_lies r m (Some (Simple next)) = other_lies (r next)
  entry_lies r m (Some (Array n at)) = tt
  entry_lies r m (Some (Map n at)) = tt
  entry_lies r m (Some (Set n at)) = tt
  entry_lies r m None = tt

  module _ (key : List ℕ) where
    next_lies : (e : Option Entry) (rest : ℕ → List Entry) → Value_lies e → ((q : ℕ) → Value_lies (find s key (rest q))) → Value_lies (find s key (onward e rest))
    unfolding find
    next_lies (Some (Keyed start stop next)) rest l k = by_test Value_lies (has_key s key (Keyed start stop next)) (λ h. l) (λ h. k next)
    next_lies (Some (Other next)) rest l k = k next
    next_lies None rest l k = tt

    found_lies : (l n p : ℕ) → Value_lies (find s key (entries s l n p))
    unfolding entries find entry_at
    found_lies l zero p = tt
    found_lies l (suc n) p = next_lies (entry_at s l p) (entries s l n) (entry_lies (value s l) (value-moves s l) (item_at s p)) (found_lies l n)

    -- an entry that is found has the key and, where all are, is allowed
    abbrev Fits : Option Entry → Type 0
    Fits None = Unit {0}
    Fits (Some e) = (has_key s key e ≡ true) × (allowed s e ≡ true)

    found-fits : (es : List Entry) → all (allowed s) es ≡ true → Fits (find s key es)
    unfolding all find
    found-fits [] ok = tt
    found-fits (e ∷ es) ok = by (has_key s key e) refl (found-fits es (and_right (allowed s e) _ ok))
      where
        by : (b : Bool) → has_key s key e ≡ b → Fits (find s key es) → Fits (cond b (Some e) (find s key es))
        by true h k = (h, and_left (allowed s e) _ ok)
        by false h k = k

  -- the name
  name-long : (x : Option Item) → is_name x ≡ true → (start stop : ℕ) → x ≡ Some (Bytes start stop) → start < stop
  name-long x h start stop e =
      let k = leb-true 1 (stop - start) (and_left _ (leb (stop - start) 64) (rw e at h)) in omega arith

  fits-name : (e : Entry) → has_key s name-key e ≡ true → allowed s e ≡ true → is_name (value_item s e) ≡ true
  unfolding allowed
  fits-name e h k = rw h at k

  name_lies : (e : Option Entry) → Fits name-key e → (start stop : ℕ) → value_found s e ≡ Some (Bytes start stop) → Lies start stop
  name_lies (Some (Keyed a b c)) f start stop x =
      let l : Item-ahead s b (Some (Bytes start stop)) = subst (Item-ahead s b) x (item-ahead s b) in
      (name-long (item_at s b) (fits-name (Keyed a b c) f.0 f.1) start stop x, l.1)
  name_lies (Some (Other next)) f start stop x = let z : ◌≡◌ {A = ℕ} 0 1 = cc in absurd (omega arith)
  name_lies None f start stop x = let z : ◌≡◌ {A = ℕ} 0 1 = cc in absurd (omega arith)

  abbrev Named : Checked → Type 0
  Named (Ok c) = Lies c.start c.stop
  Named (Err x) = Unit {0}

  checked-named : Named (checked s)
  unfolding value_under
  checked-named = by-checked s Named tt tt tt (λ n at e ok start stop x.
      let lies : Lies start stop = name_lies (find s name-key (entries s 7 n at)) (found-fits name-key (entries s 7 n at) ok) start stop x in
      by_map (λ c. Named (Ok c)) (value_under s args_key (entries s 7 n at)) _ _ (λ count first y. lies) lies)

  empty_name : (c : Checked) → Named c → EmptyExactly (number_of c) (if_command c (λ start stop count first. part s start stop) (λ n. []))
  empty_name (Ok c) l = record { there = λ e. not_empty c.start c.stop l; refused = λ h. absurd (h refl) }
  empty_name (Err NotItem) l = record { there = λ e. absurd (omega arith); refused = λ h. refl }
  empty_name (Err NotCommand) l = record { there = λ e. absurd (omega arith); refused = λ h. refl }
  empty_name (Err DoubleKey) l = record { there = λ e. absurd (omega arith); refused = λ h. refl }

  -- the value of an argument
  abbrev Placed : Result Place LookupError → Type 0
  Placed (Ok p) = Lies p.start p.stop
  Placed (Err e) = 0 < error_number e

  entry-placed : (e : Option Entry) → Value_lies e → Placed (place_of e)
  entry-placed (Some (Keyed start stop next)) l = l
  entry-placed (Some (Other next)) l = lit< tt
  entry-placed None l = lit< tt

  placed_in : (key : List ℕ) (c : Checked) → Placed (place_in s c key)
  placed_in key (Ok c) = entry-placed (find s key (entries s 6 c.count c.first)) (found_lies key 6 c.count c.first)
  placed_in key (Err NotItem) = lit< tt
  placed_in key (Err NotCommand) = lit< tt
  placed_in key (Err DoubleKey) = lit< tt

  empty_value : (p : Result Place LookupError) → Placed p → EmptyExactly (place_number p) (part_at s p)
  empty_value (Ok p) l = record { there = λ e. not_empty p.start p.stop l; refused = λ h. absurd (h refl) }
  empty_value (Err e) l = record { there = λ h. absurd (omega arith); refused = λ h. refl }

pub name_empty : NameEmpty
unfolding name_of
name_empty s = empty_name s (checked s) (checked-named s)

pub value_empty : ValueEmpty
unfolding argument_at
value_empty s key = empty_value s (argument_at s key) (placed_in s key (checked s))
