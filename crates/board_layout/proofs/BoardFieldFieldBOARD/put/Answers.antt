-- The coils fill the bytes.
use mathlib.Core.Path.{ap, ◌∙◌}
use lib.ListN.{length, replicate}
use Rattle.std.proofs.Common.{arith, ◌≡◌}
use Rattle.buffer.specs.Bytes.{write}
use Rattle.fields.specs.Fields.{put_all}
use Rattle.fields.proofs.Places.{write-whole}
use Rattle.board_layout.specs.BoardBytes.{coil}
use Rattle.board_layout.proofs.BoardFieldFieldBOARD.put.Goals as goal

pub returns : goal.returns
returns c =
    let bytes : c.as_flattened.result.now ≡ put_all coil c.args.x.coils = c.as_flattened.ensures.value ∙ c.put_all-coils.ensures in
    c.put.ensures ∙ ap (write (replicate 288 0) 0) bytes ∙ write-whole (replicate 288 0) _ (omega (arith, ap length bytes, c.as_flattened.ensures.len))
