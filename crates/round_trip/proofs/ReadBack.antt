-- The command read back has its name and its arguments: the check finds the name's place and the first pair's, and the pairs read behind
-- what stands before them as they read alone. Its mark is that of the pairs: the scan passes the heads that the sender writes.
-- Assumes nothing.
use Rattle.std.specs.Prelude.{Option, None, Some, Result, Ok, Err}
use Prim.Native.Nat.{ℕ, ◌+◌, ◌^◌, ◌<◌}
use mathlib.Core.Path.{◌≡◌, refl, sym, ap, ◌∙◌}
use mathlib.Core.Bool.{Bool, true, false, cond}
use mathlib.Core.List.{List, ◌++◌}
use native.Mathlib.Omega.{arith}
use lib.ListN.{length}
use Rattle.cbor.specs.declared.Item.{Item}
use Rattle.cbor.specs.declared.Item.TheVariants.{Unsigned, Negative, Bytes, Simple, Array, Map, Set}
use Rattle.cbor.specs.Cbor.{item_at, whole}
use Rattle.cbor.proofs.Shift.{shifted_item, item_shift}
use Rattle.entries.specs.declared.Entry.{Entry}
use Rattle.entries.specs.declared.Entry.TheVariants.{Keyed, Other}
use Rattle.double_keys.specs.declared.Keys.{Keys}
use Rattle.double_keys.specs.declared.Keys.TheVariants.{Single, Double, Others}
use Rattle.entries.specs.Entries.{entries, find}
use Rattle.double_keys.specs.DoubleKeys.{keys_of}
use Rattle.entries.proofs.Shift.{shifted_some, entries_shift, find_shift, part_shift}
use Rattle.command_map.specs.declared.Command.{Command}
use Rattle.command_map.specs.declared.Refusal.TheVariants.{NotItem, NotCommand}
use Rattle.command.specs.declared.Place.{Place}
use Rattle.command.specs.declared.LookupError.{LookupError}
use Rattle.command.specs.Command.{checked, number_of}
use Rattle.command.specs.Lookup.{place_number, place_of, signed_of, name_of, count_of, mark_of, argument_at, part_at, integer_in, integer_at}
use Rattle.loose.specs.Scan.{scanned}
use Rattle.loose.proofs.ScanLaws.{pair-passes, repeat-passes, value_passes, all-passed}
use Rattle.loose.proofs.Written.{head_passed, string-passed}
use Rattle.command_map.specs.CommandMap.{name-key, args_key}
use Rattle.command.proofs.Marks.{marked}
use Rattle.demands.proofs.SeenLaws.{never}
use Rattle.sender.specs.Parts.{command_bytes, name_start, name_stop, first_pair, pairs_end, name_fits, by_keys, parts_checked}
use Rattle.sender.proofs.PartLaws.{to_pairs, pairs_place, pairs_after, name-content, checked-by_parts}
use Rattle.round_trip.specs.ReadBack.{place_in, loose_pairs, ReadsBack, ReadBack}

-- ---- a place behind a prefix

abbrev shifted_place : ℕ → Result Place LookupError → Result Place LookupError
shifted_place n (Ok p) = Ok (record { start = n + p.start; stop = n + p.stop })
shifted_place n (Err e) = Err e

place_shift : (n : ℕ) (e : Option Entry) → place_of (shifted_some n e) ≡ shifted_place n (place_of e)
place_shift n (Some (Keyed start stop next)) = refl
place_shift n (Some (Other next)) = refl
place_shift n None = refl

number_shift : (n : ℕ) (x : Result Place LookupError) → place_number (shifted_place n x) ≡ place_number x
number_shift n (Ok p) = refl
number_shift n (Err e) = refl

signed_shift : (n : ℕ) (x : Option Item) → signed_of (shifted_item n x) ≡ signed_of x
signed_shift n (Some (Unsigned v next)) = refl
signed_shift n (Some (Negative v next)) = refl
signed_shift n (Some (Bytes start stop)) = refl
signed_shift n (Some (Simple next)) = refl
signed_shift n (Some (Array k at)) = refl
signed_shift n (Some (Map k at)) = refl
signed_shift n (Some (Set k at)) = refl
signed_shift n None = refl

module _ (p s : List ℕ) where
  value_shift : (x : Result Place LookupError) → part_at (p ++ s) (shifted_place (length p) x) ≡ part_at s x
  value_shift (Ok q) = part_shift p s q.start q.stop
  value_shift (Err e) = refl

  integer_shift : (x : Result Place LookupError) → integer_in (p ++ s) (shifted_place (length p) x) ≡ integer_in s x
  integer_shift (Ok q) = ap signed_of (item_shift p s q.start) ∙ signed_shift (length p) (item_at s q.start)
  integer_shift (Err e) = refl

  found_shift : (count : ℕ) (key : List ℕ) → place_of (find (p ++ s) key (entries (p ++ s) 6 count (length p))) ≡ shifted_place (length p) (place_in s count key)
  found_shift count key =
      let e : length p + 0 ≡ length p = omega arith in
      ap (λ (es : List Entry). place_of (find (p ++ s) key es)) (ap (entries (p ++ s) 6 count) (sym e) ∙ entries_shift p s 6 count 0)
      ∙ ap place_of (find_shift p s key (entries s 6 count 0))
      ∙ place_shift (length p) (find s key (entries s 6 count 0))

-- ---- a command that passes the check

passes : (w f : Bool) (k : Keys) (c : Command) → let r = cond w (cond f (by_keys k (Ok c)) (Err NotCommand)) (Err NotItem) in
    number_of r ≡ 0 → r ≡ Ok c
passes true true Single c h = refl
passes true true Double c h = never 25 h
passes true true Others c h = never 24 h
passes true false k c h = never 24 h
passes false f k c h = never 23 h

-- the pairs of such a command are read to their end
to_end : (w f : Bool) (k : Keys) (c : Command) → number_of (cond w (cond f (by_keys k (Ok c)) (Err NotCommand)) (Err NotItem)) ≡ 0 → w ≡ true
to_end true f k c h = refl
to_end false f k c h = never 23 h

-- the heads before the pairs are shortest
own-passed : (name pairs : List ℕ) (count : ℕ) → length name < 2 ^ 64 → count < 2 ^ 64 → scanned (command_bytes name pairs count) ≡ scanned pairs
unfolding command_bytes
own-passed name pairs count hn hc =
    let small : 4 < 2 ^ 64 = omega arith in
    head_passed 5 2 _ (omega arith) (λ e. absurd (omega arith))
    ∙ string-passed name-key _ small
    ∙ string-passed name _ hn
    ∙ string-passed args_key _ small
    ∙ head_passed 5 count pairs hc (λ e. absurd (omega arith))

module _ (name pairs : List ℕ) (count : ℕ) (hn : length name < 2 ^ 64) (hc : count < 2 ^ 64) (h : number_of (checked (command_bytes name pairs count)) ≡ 0) where
  abbrev s : List ℕ
  s = command_bytes name pairs count

  abbrev parts : Command
  parts = record { start = name_start name; stop = name_stop name; count = count; first = first_pair name count }

  check : checked s ≡ Ok parts
  unfolding parts_checked
  check =
      let e = checked-by_parts name pairs count hn hc in
      e ∙ passes (whole pairs (pairs_end pairs count)) (name_fits name) (keys_of pairs (entries pairs 6 count 0)) parts (rw e at h)

  read : whole pairs (pairs_end pairs count) ≡ true
  unfolding parts_checked
  read =
      let e = checked-by_parts name pairs count hn hc in
      to_end (whole pairs (pairs_end pairs count)) (name_fits name) (keys_of pairs (entries pairs 6 count 0)) parts (rw e at h)

  mark : mark_of s ≡ cond (loose_pairs pairs count) 1 0
  unfolding pairs_end
  mark =
      let of-pairs = all-passed pairs (repeat-passes pairs (pair-passes pairs (value_passes pairs 6)) count) read in
      sym (marked s (scanned s) refl h) ∙ ap (λ (b : Bool). cond b 1 0) (own-passed name pairs count hn hc ∙ of-pairs)

  place : (key : List ℕ) → argument_at s key ≡ shifted_place (length (to_pairs name pairs count)) (place_in pairs count key)
  unfolding argument_at
  place key = rw (check, pairs_place name pairs count, pairs_after name pairs count) (found_shift (to_pairs name pairs count) pairs count key)

  pub reads-back : ReadsBack name pairs count s
  unfolding name_of count_of integer_at
  reads-back = record {
    named = rw check (name-content name pairs count);
    counted = rw check;
    marked = mark;
    number = λ key. rw (place key) (number_shift (length (to_pairs name pairs count)) (place_in pairs count key));
    value = λ key. rw (place key, pairs_after name pairs count) (value_shift (to_pairs name pairs count) pairs (place_in pairs count key));
    integer = λ key. rw (place key, pairs_after name pairs count) (integer_shift (to_pairs name pairs count) pairs (place_in pairs count key));
  }

pub read_back : ReadBack
read_back name pairs count hn hc h = reads-back name pairs count hn hc h
