-- `Channel::is_shaped` meets its contract, by the tests.
-- Assumes nothing.
use Prim.Native.Nat.{◌<◌, ◌≤◌}
use mathlib.Core.Path.{◌≡◌, sym, ◌∙◌}
use mathlib.Core.Bool.{true}
use borrow.Author.Rules.{rules}
use borrow.Author.Tests.{lt-ltb, le-ltb, le-leb, lt-leb, not-true, not-false}
use Rattle.frame.specs.Limits.{max_payload}
use Rattle.frame.specs.Header.{length_of}
use Rattle.channel.specs.Channel.{plain_shape, held_shape, shape}
use Rattle.channel.proofs.Channel.is_shaped.Statement.{statement}
use Rattle.channel.proofs.Channel.is_shaped.Tie as tie

returns : tie.Need-returns-then-not-is_plain
unfolding shape
returns c = rw (sym c.is_plain.ensures ∙ not-true _ c.if-not-is_plain.true-raw)

plain : (i : tie.Else-not-is_plain) → plain_shape i.args.self ≡ true
plain i = sym i.is_plain.ensures ∙ not-false _ i.if-not-is_plain.false-raw

returns-2 : tie.Need-returns-then-self-lt8
unfolding shape held_shape
returns-2 c = rw (plain c.before.before, lt-ltb _ 8 c.if-self-lt8.true)

returns-3 : tie.Need-returns-then-n-gt-MAX_PAYLOAD
unfolding shape held_shape
returns-3 c =
    let n = c.before in
    let i = n.before.before.before in
    let h : max_payload < length_of i.args.work.now = rw n.payload_length-n.ensures at c.if-n-gt-MAX_PAYLOAD.true in
    rw (plain i, le-ltb _ 8 n.if-self-lt8.false, lt-leb _ max_payload h)

returns-4 : tie.Need-returns
unfolding shape held_shape
returns-4 c =
    let n = c.before.before in
    let i = n.before.before.before in
    let h : length_of i.args.work.now ≤ max_payload = rw n.payload_length-n.ensures at c.if-n-gt-MAX_PAYLOAD.false in
    rw (plain i, le-ltb _ 8 n.if-self-lt8.false, le-leb _ max_payload h, n.payload_length-n.ensures)

pub is_shaped_spec : {M : Type 1} → statement M
is_shaped_spec =
    tie.close
    (tie.spec
    (λ c κs. search rules)
    returns
    returns-2
    (λ c κs. search rules)
    returns-3
    (λ c. search rules)
    returns-4)
