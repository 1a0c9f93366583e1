-- The answers of the calls on a board, case by case.
-- Assumes nothing.
use Prim.Native.Nat.{ℕ, ◌<◌, ◌≤◌}
use mathlib.Core.Bool.{Bool, true, false}
use mathlib.Core.List.{List}
use mathlib.Core.Option.{some, none}
use mathlib.Core.Path.{◌≡◌, refl, sym, ap, ◌∙◌}
use Rattle.std.specs.Prelude as answer
use Rattle.std.specs.Prelude.{Some, None, Result, Ok, Err}
use Rattle.fields.specs.Fields.{read}
use Rattle.std.specs.Result.{result_unwrap_or}
use Rattle.board.specs.declared.Refusal.{Refusal}
use lib.ListN.{length}
use borrow.Author.Tests.{lt-ltb, le-ltb, eq-eqb, ne_eqb}
use Rattle.board.specs.declared.Coil.{Coil}
use Rattle.board.specs.declared.Board.{Board}
use Rattle.board.specs.Commands.{coil_count, refusal_number}
use Rattle.board.specs.Board.{first_board, coil_at, comes_to, applied}
use Rattle.board_layout.specs.BoardBytes.{board_length, label_at, is_board, encode, decode, board_into}
use Rattle.board_layout.proofs.BoardLaws.{board-length, board-none, board-put}
use Rattle.hgrpc.specs.Calls.{kept, part, no_part}
use Rattle.hgrpc.specs.Boards.{first_answer, applied_answer, apply_answer, switch, switch_answer, label_answer}

module _ (b : List ℕ) where
  pub first-other : (length b ≡ board_length → ⊥) → kept 3 b ≡ first_answer b
  unfolding first_answer
  first-other h = rw (ne_eqb _ _ h)

  pub first_done : length b ≡ board_length → (x : Board) (b' : List ℕ) → x ≡ first_board → b' ≡ board_into b x → kept 0 b' ≡ first_answer b
  unfolding first_answer
  first_done h x b' e f = rw (eq-eqb _ _ h, board-put b b' x h f, e)

module _ (b : List ℕ) (o : answer.Option Board) (d : read o ≡ decode b) where
  pub apply_none : (s : List ℕ) → o ≡ None → kept 3 b ≡ apply_answer b s
  unfolding apply_answer read
  apply_none s e = rw (← d, e)

  pub switch-none : (i : ℕ) → o ≡ None → switch 3 false ≡ switch_answer b i
  unfolding switch_answer read
  switch-none i e = rw (← d, e)

  pub label-none : (i : ℕ) → o ≡ None → no_part 3 ≡ label_answer b i
  unfolding label_answer read
  label-none i e = rw (← d, e)

  module _ (x : Board) (e : o ≡ Some x) where
    is : decode b ≡ some x
    unfolding read
    is = sym d ∙ ap read e

    long : length b ≡ board_length
    long = by (is_board b) refl
      where
        by : (t : Bool) → is_board b ≡ t → length b ≡ board_length
        by true f = board-length b f
        by false f = let k : none ≡ some x = sym (board-none b f) ∙ is in absurd (cc)

    -- the board after the command is put back, as it was where the command is refused; or then the board stays, and its bytes
    pub apply_done : (s : List ℕ) (r : Result Board Refusal) (b' : List ℕ) → comes_to x r ≡ applied s x → b' ≡ board_into b (result_unwrap_or r x) → kept (comes_to x r).number b' ≡ apply_answer b s
    unfolding apply_answer
    apply_done s r b' g f = rw (is, ← g) (by r (board-put b b' (result_unwrap_or r x) long f))
      where
        by : (r : Result Board Refusal) → b' ≡ encode (result_unwrap_or r x) → kept (comes_to x r).number b' ≡ applied_answer (comes_to x r)
        by (Ok next) h = ap (kept 0) h
        by (Err q) h = ap (kept (refusal_number q)) h

    pub apply_kept : (s : List ℕ) (q : Refusal) → comes_to x (Err q) ≡ applied s x → b ≡ encode x → kept (refusal_number q) b ≡ apply_answer b s
    unfolding apply_answer
    apply_kept s q g k = rw (is, ← g) (ap (kept (refusal_number q)) k)

    module _ (i : ℕ) where
      pub switch_outside : coil_count ≤ i → switch 42 false ≡ switch_answer b i
      unfolding switch_answer
      switch_outside h = rw (is, le-ltb i coil_count h)

      pub label_outside : coil_count ≤ i → no_part 42 ≡ label_answer b i
      unfolding label_answer
      label_outside h = rw (is, le-ltb i coil_count h)

      module _ (h : i < coil_count) (c : Coil) (g : c ≡ coil_at x i) where
        pub switch-done : switch 0 c.on ≡ switch_answer b i
        unfolding switch_answer
        switch-done = rw (is, lt-ltb i coil_count h) (ap (λ (y : Coil). switch 0 y.on) g)

        pub label-done : part 0 (label_at i) c.length ≡ label_answer b i
        unfolding label_answer
        label-done = rw (is, lt-ltb i coil_count h) (ap (λ (y : Coil). part 0 (label_at i) y.length) g)
