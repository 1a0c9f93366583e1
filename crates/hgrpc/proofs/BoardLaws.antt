-- The calls on a board's bytes over whole lists of commands, what a refusal leaves, and where a label stands.
-- Assumes nothing.
use Prim.Native.Nat.{ℕ, zero, suc}
use mathlib.Core.List.{List, [], ◌∷◌, foldl}
use mathlib.Core.Option.{Option, some, none}
use mathlib.Core.Path.{◌≡◌, refl, ap, ◌∙◌}
use native.Mathlib.Omega.{arith}
use lib.Dec.{lit≤}
use lib.ListN.{get_or, replicate}
use borrow.Author.Tests.{lt-ltb}
use Rattle.buffer.proofs.WriteLaws.{length-write}
use Rattle.board.specs.declared.Coil.{Coil}
use Rattle.board.specs.declared.Board.{Board}
use Rattle.board.specs.Commands.{coil_count, longest_label}
use Rattle.board.specs.Board.{first_coil, first_board, applied, after}
use Rattle.board.specs.Laws.{Every}
use Rattle.board.proofs.BoardLaws.{refused-keeps, Stays, applied_every, first_every}
use Rattle.fields.specs.Laws.{AreBytes, AllFit}
use Rattle.board_layout.specs.BoardBytes.{encode, decode}
use Rattle.board_layout.specs.Laws.{CoilFits, BoardFits}
use Rattle.board_layout.proofs.BoardLaws.{back, only, placed}
use Rattle.hgrpc.specs.Calls.{Kept, kept, if_value}
use Rattle.hgrpc.specs.Boards.{applied_answer, apply_answer, label_answer}
use Rattle.hgrpc.specs.BoardLaws.{ApplyRefused, bytes_after, BoardSessions, FirstFits, LabelThere}

-- ---- a refused command

refused-bytes : (b s : List ℕ) (x : Board) (n : ℕ) → AreBytes b → decode b ≡ some x → (applied s x).number ≡ suc n → applied_answer (applied s x) ≡ kept (suc n) b
refused-bytes b s x n h e k =
    let not-0 : (applied s x).number ≡ 0 → ⊥ = λ z. omega (arith, z, k) in
    rw (refused-keeps s x not-0, k, ← only b x h e)

pub apply_refused : ApplyRefused
unfolding apply_answer
apply_refused b s n h = by (decode b) refl
  where
    by : (o : Option Board) → decode b ≡ o → (if_value o (λ x. applied_answer (applied s x)) (kept 3 b)).number ≡ suc n → if_value o (λ x. applied_answer (applied s x)) (kept 3 b) ≡ kept (suc n) b
    by (some x) e k = refused-bytes b s x n h e k
    by none e k = ap (λ (m : ℕ). kept m b) k

-- ---- boards that fit

fits_stay : Stays CoilFits
fits_stay = record {
  switched = λ v c k. record { label = k.label; length = k.length };
  labelled = λ t c h. record { label = length-write (replicate longest_label 0) 0 t; length = h };
}

first_fit : CoilFits first_coil
first_fit = record { label = refl; length = lit≤ tt }

all_fit : (l : List Coil) → ((i : ℕ) → CoilFits (get_or l i first_coil)) → AllFit CoilFits l
all_fit [] h = tt
all_fit (c ∷ l) h = (h zero, all_fit l (λ i. h (suc i)))

each_fits : (l : List Coil) → AllFit CoilFits l → (i : ℕ) → CoilFits (get_or l i first_coil)
each_fits [] h i = first_fit
each_fits (c ∷ l) h zero = h.0
each_fits (c ∷ l) h (suc i) = each_fits l h.1 i

board-fits : (x : Board) → Every CoilFits x → BoardFits x
board-fits x k = record { coil_count = k.sixteen; coils = all_fit x.coils k.coils }

every_fits : (x : Board) → BoardFits x → Every CoilFits x
every_fits x h = record { sixteen = h.coil_count; coils = each_fits x.coils h.coils }

pub first_fits : FirstFits
first_fits = board-fits first_board (first_every CoilFits first_fit)

-- ---- whole lists of commands

one : (x : Board) (s : List ℕ) → Every CoilFits x → apply_answer (encode x) s ≡ applied_answer (applied s x)
unfolding apply_answer
one x s k = rw (back x (board-fits x k))

all : (x : Board) (commands : List (List ℕ)) (s : List ℕ) → Every CoilFits x → apply_answer (bytes_after (encode x) commands) s ≡ applied_answer (applied s (after x commands))
unfolding bytes_after after
all x [] s k = one x s k
all x (c ∷ commands) s k =
    ap (λ (a : Kept). apply_answer (foldl (λ (y t : List ℕ). (apply_answer y t).bytes) a.bytes commands) s) (one x c k)
    ∙ all (applied c x).board commands s (applied_every CoilFits fits_stay c x k)

pub board-sessions : BoardSessions
board-sessions x h commands s = all x commands s (every_fits x h)

-- ---- a label

pub label-there : LabelThere
unfolding label_answer
label-there b x i e h = rw (e, lt-ltb i coil_count h) (placed b x i e h).text
