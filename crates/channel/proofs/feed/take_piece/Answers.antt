-- `feed::take_piece` meets its contract: the bytes before the one that is judged are put, and then that one is taken.
-- Assumes nothing.
use Prim.Native.Nat.{ℕ, ◌+◌, ◌-◌, ◌≤◌, ◌<◌}
use mathlib.Core.Path.{◌≡◌, sym, ◌∙◌}
use mathlib.Core.List.{List}
use native.Mathlib.Omega.{arith}
use lib.ListN.{length, take, get_or}
use lib.Dec.{ltb, eqb}
use lib.Seq.{length-take-le}
use Rattle.channel.specs.Steps.{Held}
use borrow.Author.Tests.{eq-eqb, ne_eqb}
use Rattle.buffer.specs.Bytes.{write}
use Rattle.frame.specs.Limits.{max_payload, longest_record, frame_area}
use Rattle.frame.specs.Header.{length_of}
use Rattle.rules.proofs.Bools.{by_cond}
use Rattle.channel.specs.Steps.{Part, part, byte_of, later, piece_of, quiet_count}
use Rattle.channel.proofs.QuietLaws.{judged-late, quiet-few, quiet-below, quiet-done}
use Rattle.channel.proofs.feed.take_piece.Goals as goal

-- of one byte at most one is taken
one : (n : ℕ) (w : List ℕ) (b room : ℕ) (p : Part) → p ≡ byte_of n w b room → p.taken ≤ 1
unfolding byte_of
one n w b room p e = rw e (
    by_cond (λ (x : Part). x.taken ≤ 1) (eqb (n - 7) (length_of w)) _ _
    (λ _. by_cond (λ (x : Part). x.taken ≤ 1) (ltb room longest_record) (part 5 0 n w) _ (λ _. omega arith) (λ _. omega arith))
    (λ _. by_cond (λ (x : Part). x.taken ≤ 1) (ltb max_payload (length_of w)) _ _ (λ _. omega arith) (λ _. omega arith)))

module _ (p : ℕ) (w rest : List ℕ) (room q : ℕ) (stored : List ℕ) (counted : q ≡ quiet_count p (length_of w) (length rest)) (wrote : stored ≡ write w p (take q rest)) where
  -- the bytes that are put are all there is
  at-end : q ≡ length rest → part 0 q (p + q) stored ≡ piece_of p w rest room
  unfolding piece_of
  at-end e = rw (wrote, counted, eq-eqb (quiet_count p (length_of w) (length rest)) (length rest) (sym counted ∙ e), piece_of)

  -- the next one is taken too
  with_next : (last : Part) → q < length rest → last ≡ byte_of (p + q) stored (get_or rest q 0) room → later q last ≡ piece_of p w rest room
  unfolding piece_of
  with_next last l e = rw (e, wrote, counted, ne_eqb (quiet_count p (length_of w) (length rest)) (length rest) (λ k. omega arith), piece_of)

-- how many bytes are put, and where that leads
module _ (p q : ℕ) (w rest : List ℕ) (held : Held p w) (q-is : q ≡ quiet_count p (length_of w) (length rest)) where
  few : q ≤ length rest
  few = omega (arith, quiet-few p w rest held, q-is)

  below : p + q < frame_area
  below = omega (arith, quiet-below p w rest held, q-is)

  late : q < length rest → 7 ≤ p + q
  late l = omega (arith, judged-late _ _ (quiet-done p w rest held (omega (arith, q-is))), q-is)

pub slice_bounds-put-end : goal.slice_bounds-put-end
slice_bounds-put-end c = sym (length-take-le _ _ (few c.args.pending _ c.args.work.now c.args.rest.now c.requires.1 c.quiet-q.ensures))

pub overflow_add-at : goal.overflow_add-at
overflow_add-at c = omega (arith, below c.args.pending _ c.args.work.now c.args.rest.now c.requires.1 c.quiet-q.ensures)

pub returns-then-q-rest : goal.returns-then-q-rest
returns-then-q-rest c = at-end _ _ _ _ _ _ c.quiet-q.ensures c.put.ensures c.if-q-rest.true

-- bytes are left
pub bounds-rest-q : goal.bounds-rest-q
bounds-rest-q c = omega (arith, few c.args.pending _ c.args.work.now c.args.rest.now c.requires.1 c.quiet-q.ensures, c.if-q-rest.false)

pub take_byte-last-requires : goal.take_byte-last-requires
take_byte-last-requires c =
    let a = c.args in
    let l = few a.pending _ a.work.now a.rest.now c.requires.1 c.quiet-q.ensures in
    (late a.pending _ a.work.now a.rest.now c.requires.1 c.quiet-q.ensures (omega (arith, l, c.if-q-rest.false)), omega (arith, below a.pending _ a.work.now a.rest.now c.requires.1 c.quiet-q.ensures, c.requires.0, c.put.auto.buffer))

pub overflow_add-result : goal.overflow_add-result
overflow_add-result c = omega (arith, one _ _ _ _ _ c.take_byte-last.ensures, below c.args.pending _ c.args.work.now c.args.rest.now c.requires.1 c.quiet-q.ensures)

pub returns : goal.returns
returns c =
    let a = c.args in
    let l = few a.pending _ a.work.now a.rest.now c.requires.1 c.quiet-q.ensures in
    with_next _ _ _ _ _ _ c.quiet-q.ensures c.put.ensures _ (omega (arith, l, c.if-q-rest.false)) c.take_byte-last.ensures
