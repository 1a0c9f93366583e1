-- What a command that is accepted asks for, told from the tests that it passed; and that a command which asks so passes them.
-- Assumes nothing.
use Prim.Native.Nat.{ℕ}
use mathlib.Core.Path.{◌≡◌, refl, sym, ap, ◌∙◌}
use mathlib.Core.Bool.{Bool, true, false, cond, ◌&&◌, ◌||◌, false≢true}
use mathlib.Core.List.{List, [], ◌∷◌}
use native.Mathlib.Omega.{arith}
use lib.Dec.{eqb, leb, ltb}
use lib.IntN.{pos, negsuc}
use lib.ListN.{length}
use borrow.Author.Tests.{eqb-true, ltb-true, leb-true, lt-ltb, le-leb}
use Rattle.keys.specs.Keys.{part, equal}
use Rattle.keys.proofs.Equal.{equal-true}
use Rattle.cbor.specs.declared.Item.{Item}
use Rattle.cbor.specs.declared.Item.TheVariants as item
use Rattle.std.specs.Prelude.{Option, Some, None, Result, Ok, Err, ℤ}
use Rattle.std.proofs.lemmas.Bool.{and_parts}
use Rattle.cbor.specs.Cbor.{if_bytes}
use Rattle.cbor.proofs.Ahead.{by_test}
use Rattle.cbor.proofs.Folds.{by_bytes}
use Rattle.entries.specs.declared.Entry.{Entry}
use Rattle.entries.specs.declared.Entry.TheVariants.{Keyed, Other}
use Rattle.entries.specs.Entries.{entries, find}
use Rattle.command_map.specs.CommandMap.{Checked}
use Rattle.command_map.specs.declared.Refusal.TheVariants.{NotItem, NotCommand, DoubleKey}
use Rattle.command.specs.declared.Place.{Place}
use Rattle.command.specs.declared.LookupError.{LookupError}
use Rattle.command.specs.Command.{checked, number_of}
use Rattle.command.specs.Lookup.{place_of, place_in, place_number, name_of, count_of, argument_at, part_at, integer_in, integer_at}
use Rattle.board.specs.declared.Change.{Change}
use Rattle.board.specs.declared.Change.TheVariants.{Switch, Label, AllOff}
use Rattle.board.specs.declared.Refusal.{Refusal}
use Rattle.board.specs.declared.Refusal.TheVariants.{NoCommand, UnknownCommand, WrongArgument, NoCoil, LongText}
use Rattle.board.specs.Commands.{set-name, label-name, off-name, coil-key, on-key, text-key, switch_item, coil_count, longest_label, is_integer, coil_of, is_true, is_switch, coil_argument, coil, on_argument, item_in, text_item, in_order, refusal_number, set_change, label_change, takes, by_name, change_in, change_of}
use Rattle.board.specs.Laws.{Only, NamesCoil, AsksSet, AsksLabel, AsksOff}
use Rattle.board.proofs.Only.{only_two, only_none}

-- ---- an argument that passes its tests

coil-is : (z : Result ℤ LookupError) → is_integer z ≡ true → ltb (coil_of z) 16 ≡ true → z ≡ Ok (pos (coil_of z))
coil-is (Ok (pos n)) i l = by (ltb n 16) l
  where
    by : (t : Bool) → ltb (cond t n 16) 16 ≡ true → ◌≡◌ {A = Result ℤ LookupError} (Ok (pos n)) (Ok (pos (cond t n 16)))
    by true h = refl
    by false h = absurd (false≢true h)
coil-is (Ok (negsuc n)) i l = absurd (false≢true l)
coil-is (Err e) i l = absurd (false≢true l)

switch-is : (l : List ℕ) → is_switch l ≡ true → l ≡ switch_item (is_true l)
unfolding is_switch is_true
switch-is l = by (equal (switch_item true) l) refl
  where
    by : (t : Bool) → equal (switch_item true) l ≡ t → (t || equal (switch_item false) l) ≡ true → l ≡ switch_item t
    by true e h = sym (equal-true (switch_item true) l e)
    by false e h = sym (equal-true (switch_item false) l h)

-- a refusal's number is not 0
refused : (r : Refusal) → refusal_number r ≡ 0 → ⊥
refused (NoCommand NotItem) e = omega arith
refused (NoCommand NotCommand) e = omega arith
refused (NoCommand DoubleKey) e = omega arith
refused UnknownCommand e = omega arith
refused WrongArgument e = omega arith
refused NoCoil e = omega arith
refused LongText e = omega arith

module _ (s : List ℕ) where
  -- each is there; a missing one has the number 6, 24, 25 or 26, and not 8

  coil_in : (c : Checked) → is_integer (integer_in s (place_in s c coil-key)) ≡ true → place_number (place_in s c coil-key) ≡ 0
  coil_in (Ok c) h = by (find s coil-key (entries s 6 c.count c.first)) h
    where
      by : (e : Option Entry) → is_integer (integer_in s (place_of e)) ≡ true → place_number (place_of e) ≡ 0
      by (Some (Keyed start stop next)) h = refl
      by (Some (Other next)) h = absurd (false≢true h)
      by None h = absurd (false≢true h)
  coil_in (Err x) h = absurd (false≢true h)

  coil-found : is_integer (coil_argument s) ≡ true → place_number (argument_at s coil-key) ≡ 0
  unfolding integer_at argument_at
  coil-found = coil_in (checked s)

  on-found : is_switch (on_argument s) ≡ true → place_number (argument_at s on-key) ≡ 0
  unfolding is_switch is_true equal
  on-found = by (argument_at s on-key)
    where
      by : (p : Result Place LookupError) → is_switch (part_at s p) ≡ true → place_number p ≡ 0
      by (Ok p) h = refl
      by (Err e) h = absurd (false≢true h)

  text-found : (start stop : ℕ) → text_item s ≡ Some (item.Bytes start stop) → place_number (argument_at s text-key) ≡ 0
  unfolding text_item
  text-found start stop = by (argument_at s text-key)
    where
      by : (p : Result Place LookupError) → item_in s p ≡ Some (item.Bytes start stop) → place_number p ≡ 0
      by (Ok p) h = refl
      by (Err e) h = absurd (false≢true (ap (λ (x : Option Item). if_bytes x (λ a b. true) false) h))

  -- ---- what a command asks for

  pub record SaysSet (i : ℕ) (v : Bool) : Type 0 where
    pub asks : AsksSet s i v
    pub only : Only s (coil-key ∷ on-key ∷ [])

  pub record SaysLabel (i start stop : ℕ) : Type 0 where
    pub asks : AsksLabel s i (part s start stop)
    pub only : Only s (coil-key ∷ text-key ∷ [])

  pub record SaysOff : Type 0 where
    pub asks : AsksOff s
    pub only : Only s []

  abbrev pub Asks : Change → Type 0
  Asks (Switch i v) = SaysSet i v
  Asks (Label i start stop) = SaysLabel i start stop
  Asks AllOff = SaysOff

  abbrev pub Says : Result Change Refusal → Type 0
  Says (Ok x) = Asks x
  Says (Err r) = refusal_number r ≡ 0 → ⊥

  module _ (number : number_of (checked s) ≡ 0) where
    coil-says : is_integer (coil_argument s) ≡ true → ltb (coil s) coil_count ≡ true → NamesCoil s (coil s)
    coil-says z l = record { coil = coil-is (coil_argument s) z l; below = ltb-true (coil s) coil_count l }

    -- what remains where no refusal applies
    in_order-says : (typed there fits : Bool) (x : Change) → (typed ≡ true → there ≡ true → fits ≡ true → Asks x) → Says (in_order typed there fits x)
    in_order-says false there fits x h = refused WrongArgument
    in_order-says true false fits x h = refused NoCoil
    in_order-says true true false x h = refused LongText
    in_order-says true true true x h = h refl refl refl

    set_says : name_of s ≡ set-name → count_of s ≡ 2 → Says (set_change s)
    unfolding set_change equal
    set_says name n = in_order-says (is_integer (coil_argument s) && is_switch (on_argument s)) (ltb (coil s) coil_count) true (Switch (coil s) (is_true (on_argument s))) (λ typed there fits.
        let both = and_parts (is_integer (coil_argument s)) (is_switch (on_argument s)) typed in
        let z = both.0 in
        let w = both.1 in
        record {
          asks = record { named = record { number = number; name = name; count = n }; coil = coil-says z there; on = switch-is (on_argument s) w };
          only = only_two s coil-key on-key refl n (coil-found z) (on-found w);
        })

    label-says : name_of s ≡ label-name → count_of s ≡ 2 → Says (label_change s)
    unfolding label_change equal
    label-says name n = by_bytes Says (text_item s) _ _ (λ start stop x.
        in_order-says (is_integer (coil_argument s)) (ltb (coil s) coil_count) (leb (length (part s start stop)) longest_label) (Label (coil s) start stop) (λ z there fits. record {
          asks = record {
            named = record { number = number; name = name; count = n };
            coil = coil-says z there;
            start = start;
            stop = stop;
            text = x;
            content = refl;
            fits = leb-true (length (part s start stop)) longest_label fits;
          };
          only = only_two s coil-key text-key refl n (coil-found z) (text-found start stop x);
        })) (refused WrongArgument)

    off-says : name_of s ≡ off-name → count_of s ≡ 0 → Asks AllOff
    off-says name n = record { asks = record { number = number; name = name; count = n }; only = only_none s number n }

    -- the command of a word, with as many arguments as it takes
    takes-says : (word : List ℕ) (n : ℕ) (x others : Result Change Refusal) → (name_of s ≡ word → count_of s ≡ n → Says x) → Says others → Says (takes s (name_of s) (count_of s) word n x others)
    takes-says word n x others h g =
        by_test Says (equal word (name_of s)) (λ e.
        by_test Says (eqb (count_of s) n) (λ k. h (sym (equal-true word (name_of s) e)) (eqb-true (count_of s) n k)) (λ k. refused WrongArgument)) (λ e. g)

    name-says : Says (by_name s (name_of s) (count_of s))
    unfolding by_name
    name-says =
        takes-says set-name 2 (set_change s) _ set_says
        (takes-says label-name 2 (label_change s) _ label-says
        (takes-says off-name 0 (Ok AllOff) (Err UnknownCommand) off-says (refused UnknownCommand)))

  pub says : Says (change_of s)
  unfolding change_of
  says = by (checked s) refl
    where
      by : (c : Checked) → checked s ≡ c → Says (change_in s c)
      by (Ok c) e = name-says (ap number_of e)
      by (Err x) e = refused (NoCommand x)

  -- ---- a command that asks for it is accepted

  pub switch-true : (v : Bool) → (is_switch (switch_item v) ≡ true) × (is_true (switch_item v) ≡ v)
  unfolding is_switch is_true equal
  switch-true true = (refl, refl)
  switch-true false = (refl, refl)

  accepted : number_of (checked s) ≡ 0 → change_of s ≡ by_name s (name_of s) (count_of s)
  unfolding change_of
  accepted h = by (checked s) h
    where
      by : (c : Checked) → number_of c ≡ 0 → change_in s c ≡ by_name s (name_of s) (count_of s)
      by (Ok c) e = refl
      by (Err NotItem) e = absurd (omega arith)
      by (Err NotCommand) e = absurd (omega arith)
      by (Err DoubleKey) e = absurd (omega arith)

  pub asks_set : (i : ℕ) (v : Bool) → AsksSet s i v → change_of s ≡ Ok (Switch i v)
  unfolding by_name set_change equal
  asks_set i v a =
      let t = switch-true v in
      accepted a.named.number
      ∙ rw (a.named.name, a.named.count, a.coil.coil, a.on, t.0, t.1, lt-ltb i 16 a.coil.below)
      (rw (lt-ltb i 16 a.coil.below))

  pub asks-label : (i : ℕ) (t : List ℕ) (a : AsksLabel s i t) → change_of s ≡ Ok (Label i a.start a.stop)
  unfolding by_name label_change equal
  asks-label i t a =
      accepted a.named.number
      ∙ rw (a.named.name, a.named.count, a.coil.coil, a.text, lt-ltb i 16 a.coil.below, a.content, le-leb (length t) 16 a.fits)
      (rw (lt-ltb i 16 a.coil.below))

  pub asks-off : AsksOff s → change_of s ≡ Ok AllOff
  unfolding by_name equal
  asks-off a = accepted a.number ∙ rw (a.name, a.count)
