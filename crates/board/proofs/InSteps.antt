-- What `set` and `label` ask for, judged step by step, in the code's order.
-- Assumes nothing.
use mathlib.Core.Path.{◌≡◌, refl, sym}
use mathlib.Core.Bool.{Bool, true, false, cond, ◌&&◌}
use mathlib.Core.List.{List}
use Prim.Native.Nat.{ℕ}
use lib.Dec.{ltb, leb}
use lib.ListN.{length}
use Rattle.std.specs.Prelude.{Option, Some, None, Result, Ok, Err}
use Rattle.std.specs.Option.{ok_or}
use Rattle.keys.specs.Keys.{part}
use Rattle.cbor.specs.declared.Item.{Item}
use Rattle.cbor.specs.declared.Item.TheVariants.{Unsigned, Negative, Bytes, Simple, Array, Map, Set}
use Rattle.cbor.specs.Cbor.{if_bytes}
use Rattle.board.specs.declared.Change.TheVariants.{Switch, Label}
use Rattle.board.specs.declared.Refusal.{Refusal}
use Rattle.board.specs.declared.Refusal.TheVariants.{WrongArgument, LongText}
use Rattle.board.specs.Commands.{coil_count, longest_label, is_integer, is_true, is_switch, in_order, coil_argument, coil, on_argument, text_item, set_change, label_change}
use Rattle.board.specs.Steps.{switch_in, coil_in, text_place}

-- the next step, unless this one refuses
abbrev pub next : {A B : Type 0} → Result A Refusal → (A → Result B Refusal) → Result B Refusal
next (Ok x) f = f x
next (Err r) f = Err r

abbrev pub of_text : {A : Type 0} → Option (ℕ × ℕ) → (ℕ → ℕ → Result A Refusal) → Result A Refusal
of_text (Some p) f = f p.0 p.1
of_text None f = Err WrongArgument

-- the refusal that `ok_or` was given
pub given_refusal : {A : Type 0} (o : Option A) (x r : Refusal) → Err x ≡ ok_or o r → x ≡ r
given_refusal None x r e = cc
given_refusal (Some a) x r e = absurd (cc)

set-order : (a w t v : Bool) (i : ℕ)
    → next (cond w (Ok v) (Err WrongArgument)) (λ on. next (in_order a t true i) (λ k. Ok (Switch k on))) ≡ in_order (a && w) t true (Switch i v)
set-order true true true v i = refl
set-order true true false v i = refl
set-order true false t v i = refl
set-order false true t v i = refl
set-order false false t v i = refl

label-order : (a t f : Bool) (i start stop : ℕ) → next (in_order a t true i) (λ k. cond f (Ok (Label k start stop)) (Err LongText)) ≡ in_order a t f (Label i start stop)
label-order true true true i start stop = refl
label-order true true false i start stop = refl
label-order true false f i start stop = refl
label-order false t f i start stop = refl

module _ (s : List ℕ) where
  pub set_steps : set_change s ≡ next (switch_in (on_argument s)) (λ on. next (coil_in (coil_argument s)) (λ k. Ok (Switch k on)))
  unfolding set_change switch_in coil_in
  set_steps = sym (set-order (is_integer (coil_argument s)) (is_switch (on_argument s)) (ltb (coil s) coil_count) (is_true (on_argument s)) (coil s))

  pub label_steps : label_change s ≡ of_text (text_place s) (λ start stop. next (coil_in (coil_argument s)) (λ k. cond (leb (length (part s start stop)) longest_label) (Ok (Label k start stop)) (Err LongText)))
  unfolding label_change coil_in text_place
  label_steps = by (text_item s)
    where
      order : (start stop : ℕ)
          → in_order (is_integer (coil_argument s)) (ltb (coil s) coil_count) (leb (length (part s start stop)) longest_label) (Label (coil s) start stop)
          ≡ next (in_order (is_integer (coil_argument s)) (ltb (coil s) coil_count) true (coil s)) (λ k. cond (leb (length (part s start stop)) longest_label) (Ok (Label k start stop)) (Err LongText))
      order start stop = sym (label-order (is_integer (coil_argument s)) (ltb (coil s) coil_count) (leb (length (part s start stop)) longest_label) (coil s) start stop)

      by : (x : Option Item)
          → if_bytes x (λ start stop. in_order (is_integer (coil_argument s)) (ltb (coil s) coil_count) (leb (length (part s start stop)) longest_label) (Label (coil s) start stop)) (Err WrongArgument)
          ≡ of_text (if_bytes x (λ start stop. Some (start, stop)) None) (λ start stop. next (in_order (is_integer (coil_argument s)) (ltb (coil s) coil_count) true (coil s)) (λ k. cond (leb (length (part s start stop)) longest_label) (Ok (Label k start stop)) (Err LongText)))
      by (Some (Unsigned n at)) = refl
      by (Some (Negative n at)) = refl
      by (Some (Bytes start stop)) = order start stop
      by (Some (Simple at)) = refl
      by (Some (Array n at)) = refl
      by (Some (Map n at)) = refl
      by (Some (Set n at)) = refl
      by None = refl
