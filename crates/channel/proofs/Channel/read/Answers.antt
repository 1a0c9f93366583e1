-- `Channel::read` meets its contract: each turn reads a piece, as the reading of the rest begins.
-- Assumes nothing.
use Prim.Native.Nat.{ℕ, suc, ◌+◌, ◌-◌, ◌≤◌, ◌<◌}
use mathlib.Core.Path.{◌≡◌, refl, sym, ap, ◌∙◌, subst}
use mathlib.Core.List.{List}
use native.Mathlib.Omega.{arith}
use lib.ListN.{length, take, drop, length-drop, length-take}
use lib.Seq.{take_all}
use borrow.Author.Tests.{le-leb}
use Rattle.buffer.proofs.WriteLaws.{length-write}
use Rattle.frame.specs.Limits.{work_area}
use Rattle.frame.specs.Header.{length_of}
use Rattle.session.specs.Session.{Feed, Reading, read}
use Rattle.session.proofs.Pieces.{read_all}
use Rattle.channel.specs.declared.Channel.{Channel}
use Rattle.channel.specs.declared.Fed.{Fed}
use Rattle.channel.specs.declared.feed.Piece.{Piece}
use Rattle.channel.specs.Receiver.{Receiver, with_pending}
use Rattle.channel.specs.Channel.{channel, fed_with}
use Rattle.channel.specs.Steps.{receiver, put_from, judged_into, HasFrame, quiet_count, part_with, piece_of}
use Rattle.channel.proofs.Handed.{eight}
use Rattle.channel.proofs.ReceiverLaws.{ok-start, held_e}
use Rattle.channel.proofs.PieceLaws.{Comes, all-taken, piece_comes, answered, further, same_answer, still, turn-plain, turn-judged}
use Rattle.channel.proofs.LoopLaws.{So, so_start, so_end, so_on, so_off, piece, piece-within, piece-fits, same_length}
use Rattle.channel.proofs.Channel.read.Goals as goal
use Rattle.channel.proofs.Channel.read.Goals.{Joined-number-eq1, then-number-eq1, else-number-eq1}

-- what is known in the loop, over plain values
module _ (s : Channel) (work₀ out₀ input : List ℕ) (next : Channel) (work out : List ℕ) (taken written : ℕ) (wide₀ : work_area ≤ length work₀)
    (inv : (length work ≡ length work₀) × So (receiver s work₀) out₀ input (receiver next work) taken written out) where
  abbrev so : So (receiver s work₀) out₀ input (receiver next work) taken written out
  so = inv.1

  wide : work_area ≤ length work
  wide = omega (arith, inv.0, wide₀)

  done : written ≤ length out
  done = omega (arith, so.fits, same_length _ _ _ so)

  abbrev rest : List ℕ
  rest = drop taken input

  abbrev size : ℕ
  size = suc (quiet_count next.pending (length_of work) (length rest))

  abbrev got : Reading Receiver
  got = piece (receiver s work₀) out₀ input so size

  abbrev gives : Feed Receiver
  gives = further taken written (put_from out written got)

  -- a piece was taken
  module _ (p : Piece) (work' : List ℕ) (p-is : part_with p work' ≡ piece_of next.pending work (take (length input - taken) rest) (length out - written)) where
    comes : Comes next got (part_with p work')
    comes =
        subst (Comes next got)
        (sym (p-is ∙ ap (λ (l : List ℕ). piece_of next.pending work l (length out - written)) (take_all (length input - taken) rest (omega (arith, length-drop taken input)))))
        (piece_comes next work rest (length out - written) so.live (held_e (receiver next work) so.ok.held))

    within : taken + p.taken ≤ length input
    within = omega (arith, all-taken _ _ _ comes, piece-within _ _ _ so size)

    -- a piece that is read to its end has a byte
    some : got.number ≡ 0 → taken < length input → 1 ≤ p.taken
    some z l = omega (arith, all-taken _ _ _ comes, read_all channel (receiver next work) (length out - written) (take size rest) z, length-take size rest, length-drop taken input)

    frame : length work' ≡ length work → p.number ≡ 1 → HasFrame (with_pending next p.pending) work'
    frame e h = record { wide = omega (arith, wide, e); short = comes.frame h; live = so.live; active = so.ok.active }

    -- its frame was judged
    judged : (a : Fed) (w new : List ℕ) → p.number ≡ 1 → fed_with a w new ≡ judged_into out written (with_pending next p.pending) work'
        → answered a.number (taken + p.taken) (written + a.written) a.channel w new ≡ gives
    judged a w new h e = turn-judged next got (part_with p work') comes out taken written a w new h e

    fits : (a : Fed) (w new : List ℕ) → p.number ≡ 1 → fed_with a w new ≡ judged_into out written (with_pending next p.pending) work' → written + a.written ≤ length out₀
    fits a w new h e = omega (arith, ap (λ (f : Feed Receiver). f.written) (judged a w new h e), piece-fits _ _ _ so size)

    -- the piece was taken, and its frame judged where one is whole
    module _ (number written' : ℕ) (after : Channel) (w new : List ℕ) (turned : answered number (taken + p.taken) written' after w new ≡ gives) where
      number_is : number ≡ got.number
      number_is = ap (λ (f : Feed Receiver). f.number) turned

      same_out : length new ≡ length out₀
      same_out = ap (λ (f : Feed Receiver). length f.output) turned ∙ length-write out written got.records ∙ same_length _ _ _ so

      -- the loop goes on
      goes_on : number ≡ 0 → So (receiver s work₀) out₀ input (receiver after w) (taken + p.taken) written' new
      goes_on z =
          subst (λ (f : Feed Receiver). So (receiver s work₀) out₀ input f.next f.taken f.written f.output)
          (sym (still _ _ _ _ _ _ z ∙ turned))
          (so_on _ _ _ so size (sym number_is ∙ z))

      ends : (a : Fed) → (number ≡ 0 → ⊥) → fed_with a w new ≡ answered number (taken + p.taken) written' after w new
          → fed_with a w new ≡ put_from out₀ 0 (read channel (receiver s work₀) (length out₀) input)
      ends a o e = e ∙ turned ∙ so_off _ _ _ so size (λ z. o (number_is ∙ z))

      less : number ≡ 0 → taken < length input → length input - (taken + p.taken) < length input - taken
      less z l = omega (arith, some (sym number_is ∙ z) l, within)

pub loop-taken-init : goal.loop-taken-init
loop-taken-init c =
    let r = receiver c.args.self c.args.work.now in
    (refl, so_start r c.args.out.now c.args.input.now (ok-start r (le-leb work_area (length c.args.work.now) c.requires.0) (eight c.args.self _ c.well_formed.0) c.requires.2) c.requires.1)

pub take_piece-piece-requires : goal.take_piece-piece-requires
take_piece-piece-requires c =
    let l = c.loop-taken in
    (wide _ _ _ _ _ _ _ _ _ c.requires.0 l.invariant, held_e (receiver l.next l.work) l.invariant.1.ok.held)

pub overflow_add-taken : goal.overflow_add-taken
overflow_add-taken c = omega (arith, within _ _ _ _ _ _ _ _ _ c.requires.0 c.loop-taken.invariant _ _ c.take_piece-piece.ensures, c.well_formed.1.1.0.0)

pub judge-judged-requires : goal.judge-judged-requires
judge-judged-requires c = frame _ _ _ _ _ _ _ _ _ c.requires.0 c.loop-taken.invariant _ _ c.take_piece-piece.ensures c.take_piece-piece.auto.work c.if-number-eq1.true

pub overflow_add-written : goal.overflow_add-written
overflow_add-written c =
    omega (arith, fits _ _ _ _ _ _ _ _ _ c.requires.0 c.loop-taken.invariant _ _ c.take_piece-piece.ensures c.judge-judged.result _ _ c.if-number-eq1.true c.judge-judged.ensures, c.well_formed.1.1.1.0.1)

-- the answer of the turn, by whether a frame was judged
turned : (c : Joined-number-eq1)
    → answered c.if-number-eq1.number (c.loop-taken.taken + c.take_piece-piece.result.taken) c.if-number-eq1.written c.if-number-eq1.next c.if-number-eq1.work c.if-number-eq1.out
    ≡ gives c.args.self c.args.work.now c.args.out.now c.args.input.now _ _ _ _ _ c.requires.0 c.loop-taken.invariant
turned c =
    let l = c.loop-taken in
    let p = c.take_piece-piece in
    elim c.if-number-eq1.branch [
      | then-number-eq1 w ↦ same_answer _ _ _ _ _ _ _ _ _ _ _ w.work-is w.out-is w.next-is w.written-is w.number-is
          ∙ judged _ _ _ _ _ _ _ _ _ c.requires.0 l.invariant _ _ p.ensures w.judge-judged.result _ _ w.if-number-eq1.true w.judge-judged.ensures
      | else-number-eq1 w ↦ same_answer _ _ _ _ _ _ _ _ _ _ _ w.work-is w.out-is w.next-is w.written-is w.number-is
          ∙ turn-plain _ _ _ (comes _ _ _ _ _ _ _ _ _ c.requires.0 l.invariant _ _ p.ensures) _ _ _ w.if-number-eq1.false
    ]

-- the work area keeps its length
same-work : (c : Joined-number-eq1) → length c.if-number-eq1.work ≡ length c.args.work.now
same-work c = omega (arith, c.if-number-eq1.auto.work)

pub returns-then-number-ne0 : goal.returns-then-number-ne0
returns-then-number-ne0 c =
    let l = c.loop-taken in
    ends _ _ _ _ _ _ _ _ _ c.requires.0 l.invariant _ _ c.take_piece-piece.ensures _ _ _ _ _ (turned (goal.at.returns-then-number-ne0 c).Joined-number-eq1) c.ended.result c.if-number-ne0.true
    (ap (λ (a : Fed). fed_with a c.if-number-eq1.work c.if-number-eq1.out) c.ended.ensures)

pub loop-taken-smaller : goal.loop-taken-smaller
loop-taken-smaller c =
    less _ _ _ _ _ _ _ _ _ c.requires.0 c.loop-taken.invariant _ _ c.take_piece-piece.ensures _ _ _ _ _ (turned (goal.at.loop-taken-smaller c).Joined-number-eq1) c.if-number-ne0.false c.loop-taken-test.true

pub loop-taken-preserved : goal.loop-taken-preserved
loop-taken-preserved c =
    (same-work (goal.at.loop-taken-preserved c).Joined-number-eq1, goes_on _ _ _ _ _ _ _ _ _ c.requires.0 c.loop-taken.invariant _ _ c.take_piece-piece.ensures _ _ _ _ _ (turned (goal.at.loop-taken-preserved c).Joined-number-eq1) c.if-number-ne0.false)

pub returns : goal.returns
returns c =
    ap (λ (f : Fed). fed_with f c.loop-taken.work c.loop-taken.out) c.answer.ensures ∙ so_end _ _ _ c.loop-taken.invariant.1 c.loop-taken-test.false
