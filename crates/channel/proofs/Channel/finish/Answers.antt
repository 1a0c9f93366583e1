-- `Channel::finish` meets its contract, by the checks and the slot found.
-- Assumes nothing.
use Rattle.std.proofs.Common.{◌≡◌, ◌≤◌, ℕ, true, length, refl, sym, ◌∙◌, arith}
use lib.ListN.{get_or-eq_default}
use borrow.Author.Tests.{ne_eqb}
use Rattle.requests.specs.Phases.{free_slot, is_phase, code}
use Rattle.requests.proofs.Search.{at-some, at-none}
use Rattle.channel.specs.declared.Channel.{Channel}
use Rattle.channel.specs.Receiver.{place_of, finish_state}
use Rattle.channel.specs.Channel.{plain_shape}
use Rattle.channel.proofs.Handed.{eight}
use Rattle.channel.proofs.ReceiverLaws.{plain_counts}
use Rattle.channel.proofs.Finish.{finish-dead, accepts, refuses}
use Rattle.channel.proofs.Channel.finish.Goals as goal

-- where no slot has the id
none : (s : Channel) (id n : ℕ) → n ≡ place_of s id → length s.slots ≤ n → s.dead ≡ 0 → finish_state s id ≡ record { next = s; number = 4 }
unfolding is_phase code
none s id n n-is far dead = refuses s id n free_slot n-is (rw (get_or-eq_default s.slots free_slot far)) dead refl

pub returns-then-self-ne0-clause-answer : goal.returns-then-self-ne0-clause-answer
returns-then-self-ne0-clause-answer c =
    let plain : plain_shape c.args.self ≡ true = sym c.is_plain.ensures ∙ c.if-not-is_plain.false in
    rw (plain, finish-dead c.args.self c.args.id c.if-self-ne0.true)

pub returns-then-self-ne0-clause-why : goal.returns-then-self-ne0-clause-why
returns-then-self-ne0-clause-why c =
    let plain : plain_shape c.args.self ≡ true = sym c.is_plain.ensures ∙ c.if-not-is_plain.false in
    rw (plain, ne_eqb c.args.self.dead 0 c.if-self-ne0.true)

pub returns-in_default-clause-answer : goal.returns-in_default-clause-answer
unfolding place_of
returns-in_default-clause-answer c =
    let plain : plain_shape c.args.self ≡ true = sym c.is_plain.ensures ∙ c.if-not-is_plain.false in
    let n = at-none _ (sym c.place_of.ensures ∙ c.in_default.is) in
    rw (plain, none c.args.self c.args.id _ refl (omega (arith, n, eight c.args.self _ c.well_formed.0)) c.if-self-ne0.false)

pub returns-in_default-clause-why : goal.returns-in_default-clause-why
returns-in_default-clause-why c =
    let plain : plain_shape c.args.self ≡ true = sym c.is_plain.ensures ∙ c.if-not-is_plain.false in
    rw (plain, c.if-self-ne0.false)

pub returns-then-not-can_finish-clause-answer : goal.returns-then-not-can_finish-clause-answer
unfolding place_of
returns-then-not-can_finish-clause-answer c =
    let plain : plain_shape c.args.self ≡ true = sym c.is_plain.ensures ∙ c.if-not-is_plain.false in
    let i-is = (at-some _ _ (sym c.place_of.ensures ∙ c.in-Some.is)).0 in
    rw (plain, refuses c.args.self c.args.id _ _ i-is c.slot_at-x.ensures c.if-self-ne0.false (sym c.can_finish.ensures ∙ c.if-not-can_finish.true))

pub returns-then-not-can_finish-clause-why : goal.returns-then-not-can_finish-clause-why
returns-then-not-can_finish-clause-why c =
    let plain : plain_shape c.args.self ≡ true = sym c.is_plain.ensures ∙ c.if-not-is_plain.false in
    rw (plain, c.if-self-ne0.false)

pub with_slot-requires : goal.with_slot-requires
with_slot-requires c = plain_counts c.args.self (sym c.is_plain.ensures ∙ c.if-not-is_plain.false)

pub returns-clause-answer : goal.returns-clause-answer
unfolding place_of
returns-clause-answer c =
    let plain : plain_shape c.args.self ≡ true = sym c.is_plain.ensures ∙ c.if-not-is_plain.false in
    let i-is = (at-some _ _ (sym c.place_of.ensures ∙ c.in-Some.is)).0 in
    rw (
      plain,
      accepts c.args.self c.args.id _ _ i-is c.slot_at-x.ensures c.if-self-ne0.false (sym c.can_finish.ensures ∙ c.if-not-can_finish.false),
      c.with_slot.ensures,
      c.finish_slot.ensures,
    )
