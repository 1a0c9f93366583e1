-- Demand 3 for the channel, by the theorem over every receiver, which asks for an invariant that bytes and finishes keep; and the claims
-- beside it. Assumes nothing.
use mathlib.Core.Path.{◌≡◌, refl}
use mathlib.Core.Bool.{Bool, true, false, cond}
use Rattle.channel.specs.declared.Channel.{Channel}
use Rattle.session.specs.Session.{Reply, own, uncut}
use Rattle.channel.specs.Receiver.{Receiver, finish_state, finish}
use Rattle.demands.specs.Demands.{Sound, Demand3, StaysSound, CountsUsed, OwnFinish, RecordsFit}
use Rattle.channel.specs.Channel.{plain_shape, channel}
use Rattle.session.proofs.Demand3 as whole
use Rattle.session.proofs.Laws.{uncut-keeps, session-keeps}
use Rattle.channel.proofs.ReceiverLaws.{Ok, ok-start, ok-shape, take-ok, keeps}

pub ok : (r : Receiver) → Sound r → Ok r
ok r s = ok-start r s.roomy s.slots s.shaped

pub demand3 : Demand3
demand3 r s cs = whole.demand3 channel keeps r (ok r s) cs

pub stays-sound : StaysSound
stays-sound r s es =
    let q = (uncut channel r es).end in
    let k = uncut-keeps channel keeps r (ok r s) es in
    record { roomy = keeps.roomy q k; slots = k.count; shaped = ok-shape q k }

pub counts_used : CountsUsed
counts_used r s cs = (session-keeps channel keeps r (ok r s) cs).active

pub records_fit : RecordsFit
records_fit r s b = (take-ok r b (ok r s)).1

pub own-finish : OwnFinish
unfolding own finish
own-finish r id = go (plain_shape r.state)
  where
    alone : Reply Channel
    alone = record { next = r.state; number = 3 }

    go : (t : Bool)
        → ◌≡◌ {A = Reply Receiver} (elim t as (λ _. Reply Receiver) [ false ↦ record { next = r; number = 3 } | true ↦ finish r id ])
        (record { next = record { state = (cond t (finish_state r.state id) alone).next; work = r.work }; number = (cond t (finish_state r.state id) alone).number })
    go true = refl
    go false = refl
