-- `vectors::answer::put_kind`: a byte string does not end before it starts. Assumes nothing.
use Rattle.std.proofs.Common.{sym, subst, ap, ◌∙◌, Some}
use Rattle.cbor.proofs.Ahead.{Item-ahead, item-ahead}
use Rattle.vectors.proofs.answer.put_kind.Goals as goal

pub overflow_sub-stop : goal.overflow_sub-stop
overflow_sub-stop g c =
    let s = c.args.item.now in
    let b = c.in-Some-Bytes in
    let h = subst (Item-ahead s 0) (sym c.read_item.ensures ∙ b.is ∙ ap Some b.field-0-is) (item-ahead s 0) in
    h.2
