-- What the code reads and puts at each place, against the layout: a line for each field.
-- Assumes nothing.
use Prim.Native.Nat.{ℕ, suc, ◌+◌}
use mathlib.Core.Bool.{Bool, ◌&&◌}
use mathlib.Core.List.{List, ◌∷◌}
use mathlib.Core.Path.{◌≡◌, ap, ◌∙◌}
use native.Mathlib.Omega.{arith}
use lib.ListN.{length, take, drop, get_or}
use lib.Dec.{ltb, eqb}
use Rattle.board.specs.declared.Coil.{Coil}
use Rattle.board.specs.Commands.{longest_label}
use Rattle.buffer.specs.Bytes.{write}
use Rattle.fields.specs.Fields.{flag, below, bytes, both}
use Rattle.fields.specs.Laws.{Local}
use Rattle.fields.proofs.Local.{choice_local, bytes_local, both_local, standing_local}
use Rattle.fields.proofs.Places.{and-true, both-get, both-good, byte-get, write-whole}
use Rattle.board_layout.specs.BoardBytes.{coil}

-- ---- a coil: its three fields behind one another

module _ (b : List ℕ) (at : ℕ) where
  pub coil-good : coil.good (drop at b) ≡ (ltb (get_or b at 0) 2 && ltb (get_or b (at + 1) 0) (suc longest_label))
  coil-good =
      both-good flag (both (below (suc longest_label)) (bytes longest_label)) b at (at + 1) (omega arith)
      ∙ ap (λ (x : Bool). flag.good (drop at b) && x)
      (both-good (below (suc longest_label)) (bytes longest_label) b (at + 1) (at + 2) (omega arith) ∙ and-true ((below (suc longest_label)).good (drop (at + 1) b)))
      ∙ rw (byte-get b at, byte-get b (at + 1))

  pub coil-get : coil.get (drop at b) ≡ record { on = eqb (get_or b at 0) 1; length = get_or b (at + 1) 0; label = take longest_label (drop (at + 2) b) }
  coil-get =
      let made : Bool × (ℕ × List ℕ) → Coil = λ t. record { on = t.0; length = t.1.0; label = t.1.1 } in
      ap made (both-get flag (both (below (suc longest_label)) (bytes longest_label)) b at (at + 1) (omega arith))
      ∙ ap (λ (t : ℕ × List ℕ). made (flag.get (drop at b), t)) (both-get (below (suc longest_label)) (bytes longest_label) b (at + 1) (at + 2) (omega arith))
      ∙ rw (byte-get b at, byte-get b (at + 1))

-- as the code puts
pub coil_put : (on n : ℕ) (z l b : List ℕ) → length z ≡ length l → b ≡ write (on ∷ n ∷ z) 2 l → b ≡ on ∷ n ∷ l
unfolding write
coil_put on n z l b h e = e ∙ ap (λ (t : List ℕ). on ∷ n ∷ t) (write-whole z l h)

pub coil_local : Local coil
coil_local = search (choice_local, bytes_local, both_local, standing_local) depth 20
