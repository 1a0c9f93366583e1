-- Bytes that are judged a state's give it, and are its bytes; others give none.
use Rattle.std.proofs.Common.{sym, rules}
use Rattle.fields.specs.Fields.{read}
use Rattle.fields.proofs.FieldLaws.{answered}
use Rattle.layout.specs.State.{encode, decode}
use Rattle.layout.proofs.StateLaws.{channel_lawful, state-read, state-none}
use Rattle.layout.proofs.read.Goals as goal

pub returns-then-not-is_state : goal.returns-then-not-is_state
unfolding read
returns-then-not-is_state c = record { value = sym (state-none c.args.b.now (search rules)); bytes = search rules }

pub returns : goal.returns
unfolding encode decode
returns c = answered channel_lawful c.args.b.now c.state_of.result c.type_inv.b (state-read c.args.b.now c.state_of.result (search rules) c.state_of.ensures)
