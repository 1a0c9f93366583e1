-- A board that fits its fields comes back from its bytes, bytes are decoded only if they are an encoding, and each part of a coil stands at its
-- place. Assumes nothing.
use Prim.Native.Nat.{ℕ, suc, ◌<◌}
use mathlib.Core.Bool.{true, false}
use mathlib.Core.List.{List, [], ◌∷◌}
use mathlib.Core.Option.{some, none}
use mathlib.Core.Path.{◌≡◌, refl, sym, ap, ◌∙◌}
use native.Mathlib.Omega.{arith}
use borrow.Author.Tests.{ltb-true}
use lib.ListN.{length, drop, get_or}
use lib.Dec.{ltb, eqb}
use lib.Seq.{take-take}
use Rattle.board.specs.declared.Coil.{Coil}
use Rattle.board.specs.declared.Board.{Board}
use Rattle.board.specs.Commands.{coil_count, longest_label}
use Rattle.board.specs.Board.{first_coil, first_board, coil_at}
use Rattle.fields.specs.Laws.{AllFit, Lawful}
use Rattle.fields.proofs.FieldLaws.{Any, flag_lawful, flag-only, below_lawful, bytes_lawful, both_lawful, many_lawful, standing_lawful, and_left, and_right, value-length, value_none, value_read, value-put, decoded, back as value-back, only as value-only}
use Rattle.fields.proofs.Loops.{get_all-first, good-at}
use Rattle.board_layout.specs.BoardBytes.{coil, board, on_at, length_at, label_at, board_length, encode, decode, is_board, board_from, board_into}
use Rattle.board_layout.specs.Laws.{CoilFits, BoardFits, Back, Only, CoilPlaced, Placed}
use Rattle.board_layout.proofs.Places.{coil-good, coil-get}

-- ---- each field has its laws

abbrev CoilIn : Coil → Type 0
CoilIn c = Any c.on × ((c.length < suc longest_label) × (length c.label ≡ longest_label))

coil_lawful : Lawful coil CoilIn
coil_lawful =
    standing_lawful
    (both_lawful flag_lawful
    (both_lawful (below_lawful (suc longest_label) (omega arith))
    (bytes_lawful longest_label)))
    (λ c. (c.on, (c.length, c.label)))
    (λ t. record { on = t.0; length = t.1.0; label = t.1.1 })
    (λ c. refl)
    (λ t. refl)

abbrev BoardIn : Board → Type 0
BoardIn x = (length x.coils ≡ coil_count) × AllFit CoilIn x.coils

pub board_lawful : Lawful board BoardIn
board_lawful = standing_lawful (many_lawful coil_lawful coil_count) (λ x. x.coils) (λ l. record { coils = l }) (λ x. refl) (λ l. refl)

-- ---- boards that fit are what the fields ask

all-coils : (l : List Coil) → AllFit CoilFits l → AllFit CoilIn l
all-coils [] h = tt
all-coils (x ∷ xs) h =
    let k : x.length < suc longest_label = omega (arith, h.0.length) in
    ((tt, (k, h.0.label)), all-coils xs h.1)

board_in : (x : Board) → BoardFits x → BoardIn x
board_in x h = (h.coil_count, all-coils x.coils h.coils)

-- ---- which bytes are decoded, and the two laws of the board's bytes

pub board-length : (b : List ℕ) → is_board b ≡ true → length b ≡ board_length
unfolding is_board
board-length = value-length board

pub board-read : (b : List ℕ) (x : Board) → is_board b ≡ true → x ≡ board_from b → decode b ≡ some x
unfolding is_board board_from decode
board-read = value_read board first_board

pub board-put : (b b' : List ℕ) (x : Board) → length b ≡ board_length → b' ≡ board_into b x → b' ≡ encode x
unfolding board_into encode
board-put = value-put board

pub board-none : (b : List ℕ) → is_board b ≡ false → decode b ≡ none
unfolding is_board decode
board-none = value_none board

pub back : Back
unfolding decode encode
back x h = value-back board_lawful x (board_in x h)

pub only : Only
unfolding decode encode
only = value-only board_lawful

-- ---- the places of a coil's parts

placed_at : (b : List ℕ) (i : ℕ) → coil.good (drop (on_at i) b) ≡ true → CoilPlaced b i (coil.get (drop (on_at i) b))
placed_at b i g =
    let k = sym (coil-good b (on_at i)) ∙ g in
    let on = ltb (get_or b (on_at i) 0) 2 in
    let size = ltb (get_or b (length_at i) 0) (suc longest_label) in
    let h : get_or b (length_at i) 0 < suc longest_label = ltb-true _ _ (and_right on size k) in
    rw (coil-get b (on_at i)) (record {
      on = sym (flag-only (get_or b (on_at i) 0) (ltb-true _ _ (and_left on size k)));
      length = refl;
      label = refl;
      text = sym (take-take (get_or b (length_at i) 0) longest_label (drop (label_at i) b) (omega arith));
    })

pub placed : Placed
unfolding decode
placed b x i e h =
    let d = decoded board b x e in
    let g = and_right (eqb (length b) board_length) (board.good b) d.good in
    let c : coil.get (drop (on_at i) b) ≡ coil_at x i =
    sym (get_all-first coil coil_count i b first_coil h) ∙ ap (λ (y : Board). coil_at y i) d.is in
    rw (← c) (placed_at b i (good-at coil coil_count i b h g))
