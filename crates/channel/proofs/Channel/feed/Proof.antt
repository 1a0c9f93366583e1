-- `Channel::feed` meets its contract: the checks 2, 3, dead and 1 in their order, then the reading.
-- Assumes nothing.
use mathlib.Core.Path.{◌≡◌, refl, sym, ◌∙◌}
use mathlib.Core.Bool.{true}
use mathlib.Core.List.{List}
use lib.Dec.{leb}
use lib.ListN.{length}
use borrow.Author.Rules.{rules}
use borrow.Author.Tests.{le-leb, lt-leb, lt-ltb, le-ltb, not-true, not-false}
use Prim.Native.Nat.{ℕ, ◌≤◌}
use Rattle.frame.specs.Limits.{longest_record, work_area}
use Rattle.session.specs.Session.{unchanged}
use Rattle.session.proofs.Laws.{feed-small, feed-unshaped, feed-dead, feed-short, feed-reads}
use Rattle.channel.specs.Receiver.{Receiver}
use Rattle.channel.specs.Channel.{channel, shape}
use Rattle.channel.specs.Steps.{receiver}
use Rattle.channel.proofs.Handed.{eight}
use Rattle.channel.proofs.ReceiverLaws.{Ok, ok-start}
use Rattle.channel.proofs.LoopLaws.{feeds-all}
use Rattle.channel.proofs.Channel.feed.Statement.{statement}
use Rattle.channel.proofs.Channel.feed.Tie as tie

returns : tie.Need-returns-then-work-lt-WORK_AREA
unfolding unchanged
returns c =
    let a = c.args in
    rw c.answer.ensures (sym (feed-small channel (receiver a.self a.work.now) a.input.now a.out.now (lt-leb work_area (length a.work.now) c.if-work-lt-WORK_AREA.true)))

-- the work area is long enough, and the state is looked at
module _ (i : tie.After-is_shaped) where
  abbrev start : tie.Start
  start = i.before.before.before.before.before

  abbrev r : Receiver
  r = receiver start.args.self start.args.work.now

  abbrev input : List ℕ
  input = start.args.input.now

  abbrev out : List ℕ
  out = start.args.out.now

  wide : work_area ≤ length r.work
  wide = i.if-work-lt-WORK_AREA.false

  roomy : leb work_area (length r.work) ≡ true
  roomy = le-leb work_area (length r.work) wide

returns-2 : tie.Need-returns-then-not-is_shaped
unfolding unchanged
returns-2 c =
    let i = c.before.before in
    rw c.answer-then-not-is_shaped.ensures (sym (feed-unshaped channel (r i) (input i) (out i) (roomy i) (sym i.is_shaped.ensures ∙ not-true _ c.if-not-is_shaped.true-raw)))

-- and it is in shape
module _ (e : tie.Else-not-is_shaped) where
  shaped : shape (r e.before) ≡ true
  shaped = sym e.is_shaped.ensures ∙ not-false _ e.if-not-is_shaped.false-raw

  ok : Ok (r e.before)
  ok =
      let s = start e.before in
      ok-start (r e.before) (roomy e.before) (eight s.args.self _ s.well_formed.0) shaped

returns-3 : tie.Need-returns-then-self-ne0
unfolding unchanged
returns-3 c =
    let e = c.before.before.before in
    let i = e.before in
    rw c.answer-then-self-ne0.ensures (sym (feed-dead channel (r i) (input i) (out i) (roomy i) (shaped e) (r i).state.dead refl c.if-self-ne0.true))

returns-4 : tie.Need-returns-then-out-lt-LONGEST_RECORD
unfolding unchanged
returns-4 c =
    let e = c.before.before.before.before in
    let i = e.before in
    rw c.answer-then-out-lt-LONGEST_RECORD.ensures (sym (feed-short channel (r i) (input i) (out i) (roomy i) (shaped e) c.if-self-ne0.false (lt-ltb (length (out i)) longest_record c.if-out-lt-LONGEST_RECORD.true)))

read-requires : tie.Need-read-requires
read-requires c κs =
    let e = c.before.before.before.before.before in
    (wide e.before, c.if-self-ne0.false, shaped e)

returns-5 : tie.Need-returns
returns-5 c =
    let d = c.before.before.before.before in
    let e = d.before.before.before.before.before.before in
    let i = e.before in
    d.read.ensures ∙ feeds-all (r i) (input i) (out i) (ok e)
    ∙ sym (feed-reads channel (r i) (input i) (out i) (roomy i) (shaped e) d.if-self-ne0.false (le-ltb (length (out i)) longest_record d.if-out-lt-LONGEST_RECORD.false))

pub feed_spec : {M : Type 1} → statement M
feed_spec =
    tie.close
    (tie.spec
    (λ c κs. search rules)
    returns
    (λ c κs. search rules)
    (λ c κs. search rules)
    (λ c. search rules)
    returns-2
    (λ c κs. search rules)
    (λ c. search rules)
    returns-3
    (λ c κs. search rules)
    (λ c. search rules)
    returns-4
    read-requires
    (λ c. search rules)
    (λ c. search rules)
    returns-5)
