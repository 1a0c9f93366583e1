-- The check of a command's bytes is the judgement of its parts: `laid` says what is read at each place of the bytes, the pairs read behind
-- what stands before them as they read alone, and the check follows from that.
-- Assumes nothing.
use Rattle.std.specs.Prelude.{Option, None, Some, Ok, Err}
use mathlib.Core.Path.{◌≡◌, refl, sym, ap, ◌∙◌}
use mathlib.Core.Bool.{Bool, true, false, cond, ◌&&◌, ◌||◌}
use mathlib.Core.List.{List, [], ◌∷◌, ◌++◌, append_assoc}
use Prim.Native.Nat.{ℕ, ◌+◌, ◌-◌, ◌^◌, ◌<◌}
use native.Mathlib.Omega.{arith}
use lib.ListN.{length, length-append}
use lib.Seq.{take_at, drop_at}
use Rattle.cbor.specs.declared.Item.TheVariants.{Bytes, Map}
use Rattle.cbor.specs.Cbor.{width, shortest, and_then, item_at, key, pair, repeat, value, whole, is_item}
use Rattle.cbor.specs.Heads.{big_bytes, head_bytes, string_bytes}
use Rattle.cbor.proofs.Shift.{shifted, repeat_shifts, pair_shifts, value_shifts, whole_shift}
use Rattle.cbor.proofs.HeadLaws.{string-at, map_at}
use Rattle.keys.specs.Keys.{part, equal, among, twice}
use Rattle.entries.specs.declared.Entry.{Entry}
use Rattle.entries.specs.declared.Entry.TheVariants.{Keyed}
use Rattle.double_keys.specs.declared.Keys.TheVariants.{Single, Double, Others}
use Rattle.entries.specs.Entries.{all, any, is_keyed, entry_at, entries, contents, find}
use Rattle.double_keys.specs.DoubleKeys.{keys_of}
use Rattle.entries.proofs.Shift.{entries_shift, part_shift, all-keyed_shift, twice_shift}
use Rattle.command_map.specs.declared.Refusal.TheVariants.{NotItem, NotCommand, DoubleKey}
use Rattle.command_map.specs.CommandMap.{Checked, name-key, args_key, allowed, value_under, args_double, double, map_of}
use Rattle.command.specs.Command.{checked}
use Rattle.sender.specs.Parts.{command_bytes, name_start, name_stop, first_pair, pairs_end, name_fits, by_keys, parts_checked, CheckedByParts}

-- What stands behind the first f bytes of s: the pairs, read there as they read alone.
record Behind (s pairs : List ℕ) (count f : ℕ) : Type 0 where
  ends : repeat count (pair s (value s 6)) f ≡ shifted f (pairs_end pairs count)
  end : (x : Option ℕ) → whole s (shifted f x) ≡ whole pairs x
  strings : all is_keyed (entries s 6 count f) ≡ all is_keyed (entries pairs 6 count 0)
  doubles : twice (contents s (entries s 6 count f)) ≡ twice (contents pairs (entries pairs 6 count 0))

behind : (p pairs : List ℕ) (count : ℕ) → Behind (p ++ pairs) pairs count (length p)
unfolding pairs_end
behind p pairs count =
    let e : length p + 0 ≡ length p = omega arith in
    let es : entries (p ++ pairs) 6 count (length p) ≡ _ = ap (entries (p ++ pairs) 6 count) (sym e) ∙ entries_shift p pairs 6 count 0 in
    record {
      ends = ap (repeat count (pair (p ++ pairs) (value (p ++ pairs) 6))) (sym e) ∙ (repeat_shifts p pairs (pair_shifts p pairs (value_shifts p pairs 6)) count).shift 0;
      end = whole_shift p pairs;
      strings = ap (all is_keyed) es ∙ all-keyed_shift p pairs (entries pairs 6 count 0);
      doubles = ap (λ (l : List Entry). twice (contents (p ++ pairs) l)) es ∙ twice_shift p pairs (entries pairs 6 count 0);
    }

alone : (k rest : List ℕ) → part (string_bytes k ++ rest) (length (head_bytes 2 (length k))) (length (string_bytes k)) ≡ k
unfolding part string_bytes
alone k rest =
    let head : List ℕ = head_bytes 2 (length k) in
    let n : length (head ++ k) - length head ≡ length k = omega (arith, length-append head k) in
    rw (n, append_assoc head k rest, drop_at head (k ++ rest) (length head) refl, take_at k rest (length k) refl)

-- A byte string written behind p is read at the position q, and its content is found again.
module _ (s p k rest : List ℕ) (q : ℕ) (e : s ≡ p ++ (string_bytes k ++ rest)) (h : q ≡ length p) where
  string-read : length k < 2 ^ 64 → item_at s q ≡ Some (Bytes (q + length (head_bytes 2 (length k))) (q + length (string_bytes k)))
  string-read l = rw (e, h) (string-at p k rest l)

  string-part : part s (q + length (head_bytes 2 (length k))) (q + length (string_bytes k)) ≡ k
  string-part = rw (e, h) (part_shift p (string_bytes k ++ rest) (length (head_bytes 2 (length k))) (length (string_bytes k)) ∙ alone k rest)

-- How a command lies in its bytes s: the outer map of two, its keys and values, and the pairs from f on.
record Laid (s name pairs : List ℕ) (count a b f : ℕ) : Type 0 where
  outer : item_at s 0 ≡ Some (Map 2 1)
  name-key-at : item_at s 1 ≡ Some (Bytes 2 6)
  name-at : item_at s 6 ≡ Some (Bytes a b)
  args_key-at : item_at s b ≡ Some (Bytes (b + 1) (b + 5))
  args_at : item_at s (b + 5) ≡ Some (Map count f)
  name-part : part s 2 6 ≡ name-key
  args_part : part s (b + 1) (b + 5) ≡ args_key
  size : b - a ≡ length name
  pairs_at : Behind s pairs count f

-- the heads of the outer map and of its keys are one byte each
outer_head : length (head_bytes 5 2) ≡ 1
unfolding head_bytes big_bytes shortest width
outer_head = refl

key-head : length (head_bytes 2 4) ≡ 1
unfolding head_bytes big_bytes shortest width
key-head = refl

name-size : length (string_bytes name-key) ≡ 5
unfolding string_bytes head_bytes big_bytes shortest width
name-size = refl

args_size : length (string_bytes args_key) ≡ 5
unfolding string_bytes head_bytes big_bytes shortest width
args_size = refl

name-long : (name : List ℕ) → name_stop name - name_start name ≡ length name
unfolding string_bytes
name-long name = omega (arith, length-append (head_bytes 2 (length name)) name)

module _ (name pairs : List ℕ) (count : ℕ) where
  -- what follows the key `name`, the name, and the key `args`
  abbrev from-name : List ℕ
  from-name = string_bytes name ++ (string_bytes args_key ++ (head_bytes 5 count ++ pairs))

  abbrev from_args : List ℕ
  from_args = head_bytes 5 count ++ pairs

  -- what stands before the name, before the key `args`, before its value and before the pairs
  to-name : List ℕ
  to-name = head_bytes 5 2 ++ string_bytes name-key

  to-key : List ℕ
  to-key = to-name ++ string_bytes name

  to_args : List ℕ
  to_args = to-key ++ string_bytes args_key

  pub to_pairs : List ℕ
  to_pairs = to_args ++ head_bytes 5 count

  name-place : 6 ≡ length to-name
  unfolding to-name
  name-place = omega (arith, length-append (head_bytes 5 2) (string_bytes name-key), outer_head, name-size)

  key-place : name_stop name ≡ length to-key
  unfolding to-key
  key-place = omega (arith, length-append to-name (string_bytes name), name-place)

  args_place : name_stop name + 5 ≡ length to_args
  unfolding to_args
  args_place = omega (arith, length-append to-key (string_bytes args_key), key-place, args_size)

  pub pairs_place : first_pair name count ≡ length to_pairs
  unfolding to_pairs
  pairs_place = omega (arith, length-append to_args (head_bytes 5 count), args_place)

  name-after : command_bytes name pairs count ≡ to-name ++ (string_bytes name ++ (string_bytes args_key ++ (head_bytes 5 count ++ pairs)))
  unfolding command_bytes to-name
  name-after = sym (append_assoc (head_bytes 5 2) (string_bytes name-key) _)

  key-after : command_bytes name pairs count ≡ to-key ++ (string_bytes args_key ++ (head_bytes 5 count ++ pairs))
  unfolding to-key
  key-after = name-after ∙ sym (append_assoc to-name (string_bytes name) _)

  args_after : command_bytes name pairs count ≡ to_args ++ (head_bytes 5 count ++ pairs)
  unfolding to_args
  args_after = key-after ∙ sym (append_assoc to-key (string_bytes args_key) _)

  pub pairs_after : command_bytes name pairs count ≡ to_pairs ++ pairs
  unfolding to_pairs
  pairs_after = args_after ∙ sym (append_assoc to_args (head_bytes 5 count) pairs)

  -- the name's content
  pub name-content : part (command_bytes name pairs count) (name_start name) (name_stop name) ≡ name
  name-content = string-part (command_bytes name pairs count) to-name name (string_bytes args_key ++ from_args) 6 name-after name-place

  laid : length name < 2 ^ 64 → count < 2 ^ 64 → Laid (command_bytes name pairs count) name pairs count (name_start name) (name_stop name) (first_pair name count)
  unfolding command_bytes
  laid hn hc =
      let s : List ℕ = command_bytes name pairs count in
      let small : 4 < 2 ^ 64 = omega arith in
      let two : 2 < 2 ^ 64 = omega arith in
      record {
        outer = rw outer_head at (map_at [] 2 (string_bytes name-key ++ from-name) two);
        name-key-at = rw (key-head, name-size) at (string-read s (head_bytes 5 2) name-key from-name 1 refl (sym outer_head) small);
        name-at = string-read s to-name name (string_bytes args_key ++ from_args) 6 name-after name-place hn;
        args_key-at = rw (key-head, args_size) at (string-read s to-key args_key from_args (name_stop name) key-after key-place small);
        args_at = rw (args_after, args_place) (map_at to_args count pairs hc);
        name-part = rw (key-head, name-size) at (string-part s (head_bytes 5 2) name-key from-name 1 refl (sym outer_head));
        args_part = rw (key-head, args_size) at (string-part s to-key args_key from_args (name_stop name) key-after key-place);
        size = name-long name;
        pairs_at = rw (pairs_after, pairs_place) (behind to_pairs pairs count);
      }

-- what the tests of the entries and the keys come to
tests : (n k t : Bool) (c : Checked) → cond (n && (k && true)) (cond (t || false) (Err DoubleKey) c) (Err NotCommand) ≡ cond n (by_keys (cond k (cond t Double Single) Others) c) (Err NotCommand)
tests true true true c = refl
tests true true false c = refl
tests true false t c = refl
tests false k t c = refl

then_at : (x : Option ℕ) → and_then x Some ≡ x
then_at (Some q) = refl
then_at None = refl

module _ (s name pairs : List ℕ) (count a b f : ℕ) (l : Laid s name pairs count a b f) where
  abbrev found : Checked
  found = Ok (record { start = a; stop = b; count = count; first = f })

  name-value : value s 7 6 ≡ Some b
  unfolding value
  name-value = rw l.name-at

  args_value : value s 7 (b + 5) ≡ shifted f (pairs_end pairs count)
  unfolding value
  args_value = rw l.args_at l.pairs_at.ends

  second : pair s (value s 7) b ≡ shifted f (pairs_end pairs count)
  unfolding pair key
  second = rw l.args_key-at args_value

  first : pair s (value s 7) 1 ≡ Some b
  unfolding pair key
  first = rw l.name-key-at name-value

  both : repeat 2 (pair s (value s 7)) 1 ≡ shifted f (pairs_end pairs count)
  unfolding repeat
  both = rw (first, second) (then_at (shifted f (pairs_end pairs count)))

  item : is_item s ≡ whole pairs (pairs_end pairs count)
  unfolding is_item value
  item = rw (l.outer, both) (l.pairs_at.end (pairs_end pairs count))

  -- the two entries, where the pairs are read to an end
  module _ (q : ℕ) (e : pairs_end pairs count ≡ Some q) where
    abbrev two : List Entry
    two = Keyed 2 6 b ∷ Keyed (b + 1) (b + 5) (f + q) ∷ []

    the_first : entry_at s 7 1 ≡ Some (Keyed 2 6 b)
    unfolding entry_at
    the_first = rw (l.name-key-at, name-value)

    the_second : entry_at s 7 b ≡ Some (Keyed (b + 1) (b + 5) (f + q))
    unfolding entry_at
    the_second = rw (l.args_key-at, args_value, e)

    the_two : entries s 7 2 1 ≡ two
    unfolding entries
    the_two = rw (the_first, the_second)

    map_of_lem : map_of s two ≡ cond (name_fits name) (by_keys (keys_of pairs (entries pairs 6 count 0)) found) (Err NotCommand)
    unfolding map_of all any allowed value_under find double args_double contents twice among equal keys_of name_fits
    map_of_lem = rw (l.name-part, l.args_part, l.name-at, l.args_at, l.size, l.pairs_at.strings, l.pairs_at.doubles) (tests (name_fits name) (all is_keyed (entries pairs 6 count 0)) (twice (contents pairs (entries pairs 6 count 0))) found)

  by_end : (x : Option ℕ) → pairs_end pairs count ≡ x → checked s ≡ cond (whole pairs x) (cond (name_fits name) (by_keys (keys_of pairs (entries pairs 6 count 0)) found) (Err NotCommand)) (Err NotItem)
  unfolding checked
  by_end None e = rw (item, e)
  by_end (Some q) e = rw (item, e, l.outer, the_two q e, map_of_lem q e)

pub checked-by_parts : CheckedByParts
unfolding parts_checked
checked-by_parts name pairs count hn hc =
    by_end (command_bytes name pairs count) name pairs count (name_start name) (name_stop name) (first_pair name count) (laid name pairs count hn hc) (pairs_end pairs count) refl
