-- The sending call for C, by the sender's: the flag and the bytes beside it, as an Option.
-- Assumes nothing.
use Prim.Native.Nat.{ℕ}
use mathlib.Core.Bool.{Bool, true, false}
use mathlib.Core.List.{List}
use mathlib.Core.Path.{◌≡◌, refl, ap, ◌∙◌}
use Rattle.std.specs.Prelude.{Option, Some, None, Result, Ok, Err, is_some}
use Rattle.std.specs.Bool.{then_some}
use Rattle.std.specs.Borrow.{Bor}
use Rattle.buffer.specs.Answers.{Answer, answer}
use Rattle.sender.specs.declared.Refusal.{Refusal}
use Rattle.sender.specs.declared.Wishes.{Wishes}
use Rattle.sender.specs.Frames.{message_frames}
use Rattle.sender.specs.Send.{refusal_number, answered, data_bytes, send_of}

module _ (how : Wishes) (command : List ℕ) (out : List ℕ) where
  -- without data it does not matter which bytes are lent for it
  as_lent : (d : Bool) (lent : Bor (List ℕ)) → send_of how command (is_some (then_some d lent)) (data_bytes (then_some d lent)) out ≡ send_of how command d lent.now out
  unfolding send_of message_frames
  as_lent true lent = refl
  as_lent false lent = refl

  module _ (d : Bool) (lent : Bor (List ℕ)) (o : Option (Bor (List ℕ))) (e : o ≡ then_some d lent) (r : Result ℕ Refusal) (out' : List ℕ)
      (g : answered r out' ≡ send_of how command (is_some o) (data_bytes o) out) where
    all : answered r out' ≡ send_of how command d lent.now out
    all = g ∙ ap (λ (p : Option (Bor (List ℕ))). send_of how command (is_some p) (data_bytes p) out) e ∙ as_lent d lent

    pub sent : (n : ℕ) → r ≡ Ok n → answer 0 n out' ≡ send_of how command d lent.now out
    sent n h = rw h at all

    pub refused : (q : Refusal) → r ≡ Err q → answer (refusal_number q) 0 out' ≡ send_of how command d lent.now out
    refused q h = rw h at all
