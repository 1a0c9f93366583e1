-- What is proved of the state's bytes beside the contracts, each claim under its name in proofs/StateLaws.antt.
-- These are definitions: they assume nothing.
use Rattle.std.specs.Prelude.{ℕ, ◌≡◌, List}
use Rattle.std.proofs.Math.Option.{some}
use Rattle.channel.specs.declared.Channel.{Channel}
use Rattle.fields.specs.Laws.{AreBytes}
use Rattle.layout.specs.State.{StateFits, encode, decode}

-- every state that fits its fields comes back
abbrev pub Back : Type 0
Back = (s : Channel) → StateFits s → decode (encode s) ≡ some s

-- bytes are decoded only if they are an encoding
abbrev pub Only : Type 0
Only = (b : List ℕ) (s : Channel) → AreBytes b → decode b ≡ some s → b ≡ encode s
