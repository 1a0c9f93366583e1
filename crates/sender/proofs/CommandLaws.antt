-- A command put into a buffer part by part.
-- Assumes nothing.
use mathlib.Core.Path.{◌≡◌, refl, sym, ap, ◌∙◌}
use mathlib.Core.List.{List, ◌∷◌, ◌++◌, append_assoc}
use Prim.Native.Nat.{ℕ, ◌+◌}
use native.Mathlib.Omega.{arith}
use lib.ListN.{length, length-append}
use Rattle.cbor.specs.Cbor.{width, shortest}
use Rattle.cbor.specs.Heads.{big_bytes, head_bytes, string_bytes}
use Rattle.buffer.specs.Bytes.{write}
use Rattle.buffer.proofs.WriteLaws.{write_also}
use Rattle.command_map.specs.CommandMap.{name-key, args_key}
use Rattle.sender.specs.Parts.{command_bytes}

-- the bytes before the name and those before the pairs' number
abbrev pub before-name : List ℕ
before-name = 0xa2 ∷ 0x44 ∷ name-key

abbrev pub before_args : List ℕ
before_args = 0x44 ∷ args_key

name-front : head_bytes 5 2 ++ string_bytes name-key ≡ before-name
unfolding string_bytes head_bytes big_bytes shortest width
name-front = refl

args_front : string_bytes args_key ≡ before_args
unfolding string_bytes head_bytes big_bytes shortest width
args_front = refl

string_open : (k : List ℕ) → string_bytes k ≡ head_bytes 2 (length k) ++ k
unfolding string_bytes
string_open k = refl

regroup : (a b c d e f g : List ℕ) → a ++ (b ++ ((c ++ d) ++ (e ++ (f ++ g)))) ≡ (((((a ++ b) ++ c) ++ d) ++ e) ++ f) ++ g
regroup a b c d e f g = simp append_assoc

module _ (name pairs : List ℕ) (count : ℕ) where
  abbrev head2 : List ℕ
  head2 = head_bytes 2 (length name)

  abbrev head5 : List ℕ
  head5 = head_bytes 5 count

  in_order : command_bytes name pairs count ≡ ((((before-name ++ head2) ++ name) ++ before_args) ++ head5) ++ pairs
  unfolding command_bytes
  in_order =
      ap (λ (l : List ℕ). head_bytes 5 2 ++ (string_bytes name-key ++ (l ++ (string_bytes args_key ++ (head5 ++ pairs))))) (string_open name)
      ∙ regroup (head_bytes 5 2) (string_bytes name-key) head2 name (string_bytes args_key) head5 pairs
      ∙ rw (name-front, args_front)

  module _ (h k : ℕ) (eh : h ≡ length head2) (ek : k ≡ length head5) where
    at3 : 6 + h ≡ length (before-name ++ head2)
    at3 = omega (arith, length-append before-name head2)

    at4 : 6 + h + length name ≡ length ((before-name ++ head2) ++ name)
    at4 = omega (arith, at3, length-append (before-name ++ head2) name)

    at5 : 6 + h + length name + 5 ≡ length (((before-name ++ head2) ++ name) ++ before_args)
    at5 = omega (arith, at4, length-append ((before-name ++ head2) ++ name) before_args)

    at6 : 6 + h + length name + 5 + k ≡ length ((((before-name ++ head2) ++ name) ++ before_args) ++ head5)
    at6 = omega (arith, at5, length-append (((before-name ++ head2) ++ name) ++ before_args) head5)

    pub command-long : 6 + h + length name + 5 + k + length pairs ≡ length (command_bytes name pairs count)
    command-long = rw in_order (omega (arith, at6, length-append ((((before-name ++ head2) ++ name) ++ before_args) ++ head5) pairs))

    pub command-put : (e w1 w2 w3 w4 w5 w6 : List ℕ) → w1 ≡ write e 0 before-name → w2 ≡ write w1 6 head2 → w3 ≡ write w2 (6 + h) name
        → w4 ≡ write w3 (6 + h + length name) before_args → w5 ≡ write w4 (6 + h + length name + 5) head5 → w6 ≡ write w5 (6 + h + length name + 5 + k) pairs
        → w6 ≡ write e 0 (command_bytes name pairs count)
    command-put e w1 w2 w3 w4 w5 w6 e1 e2 e3 e4 e5 e6 =
        let f2 = e2 ∙ write_also e w1 before-name head2 6 e1 refl in
        let f3 = e3 ∙ write_also e w2 (before-name ++ head2) name (6 + h) f2 at3 in
        let f4 = e4 ∙ write_also e w3 ((before-name ++ head2) ++ name) before_args (6 + h + length name) f3 at4 in
        let f5 = e5 ∙ write_also e w4 (((before-name ++ head2) ++ name) ++ before_args) head5 (6 + h + length name + 5) f4 at5 in
        e6 ∙ write_also e w5 ((((before-name ++ head2) ++ name) ++ before_args) ++ head5) pairs (6 + h + length name + 5 + k) f5 at6 ∙ ap (write e 0) (sym in_order)
