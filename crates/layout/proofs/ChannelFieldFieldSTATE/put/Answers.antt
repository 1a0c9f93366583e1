-- Part by part, each behind those before it.
use mathlib.Core.Path.{refl, ap, ◌∙◌}
use lib.ListN.{set, replicate, length-replicate}
use Rattle.std.proofs.Common.{ℕ, arith}
use Rattle.buffer.specs.Bytes.{write}
use Rattle.layout.specs.State.{encode, pending_at, slots_at, streams_at}
use Rattle.layout.proofs.Places.{state-put}
use Rattle.layout.proofs.ChannelFieldFieldSTATE.put.Goals as goal

pub returns : goal.returns
unfolding encode
returns c =
    let s = c.args.s in
    state-put (replicate 181 0) c.put.new.buffer c.put-2.new.buffer c.put-3.new.buffer _ s
    (c.put.ensures ∙ ap (write (set (replicate 181 0) 0 s.dead) pending_at) c.pending_bytes.ensures)
    (c.put-2.ensures ∙ ap (write c.put.new.buffer slots_at) (c.as_flattened.ensures.value ∙ c.put_all-slots.ensures))
    (c.put-3.ensures ∙ ap (write c.put-2.new.buffer streams_at) (c.as_flattened-2.ensures.value ∙ c.put_all-streams.ensures))
    refl (length-replicate {A = ℕ} 181 0) (omega arith) (omega arith) (omega arith) (omega arith)
