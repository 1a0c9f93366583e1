-- `frame::is_identity` meets its contract, by the item at the payload's start, its end and its content.
-- Assumes nothing.
use Rattle.std.proofs.Common.{◌≡◌, Bool, false, length, refl, arith}
use borrow.Author.Tests.{eq-eqb, ne_eqb}
use Rattle.cbor.proofs.Folds.{by_bytes}
use Rattle.frame.specs.Settings.{is_identity}
use Rattle.frame.proofs.is_identity.Goals as goal

pub returns-in_default : goal.returns-in_default
unfolding is_identity
returns-in_default c = rw (← c.in_default.ensures)

-- an item that is no byte string
pub returns-in_default-item : goal.returns-in_default-item
unfolding is_identity
returns-in_default-item c =
    rw (← c.read_item.ensures)
    (by_bytes (λ (b : Bool). false ≡ b) c.read_item.result _ false (λ start stop e. absurd (c.in_default-item.not-Bytes start stop (cc (e, c.in-Some.is)))) refl)

-- a byte string that ends before the payload
pub returns-then-stop-payload : goal.returns-then-stop-payload
unfolding is_identity
returns-then-stop-payload c = rw (← c.in-Some.ensures, c.in-Bytes.is, ne_eqb _ _ c.if-stop-payload.true)

pub returns : goal.returns
unfolding is_identity
returns c = rw (← c.in-Some.ensures, c.in-Bytes.is, eq-eqb c.in-Bytes.stop (length c.args.payload.now) (omega arith), ← c.part.ensures) c.same_key.ensures
