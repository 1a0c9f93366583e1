-- `status::in_bytes::show_bytes` meets its contract: a row that is not refused begins with the bytes of the slots' entries.
use Rattle.std.proofs.Common.{◌≡◌, sym, ap, ◌∙◌, ℕ, ◌/◌, List, length}
use Rattle.buffer.specs.Bytes.{write}
use Rattle.fields.specs.Fields.{put_all}
use Rattle.channel.specs.declared.Channel.{Channel}
use Rattle.status.specs.Row.{entries, refused_by, shown, row_number, entry, shown_in_bytes}
use Rattle.status.proofs.Rows.{kept_row, new_row, refusal-some, ok-zero}
use Rattle.status.proofs.in_bytes.show_bytes.Goals as goal

refused : (c : Channel) (row : List ℕ) (n : ℕ) → n ≡ row_number c (length row / 3) → (n ≡ 0 → ⊥) → shown n row ≡ shown_in_bytes c row
unfolding shown_in_bytes
refused c row n e h = kept_row _ row n _ e h

filled : (c : Channel) (row : List ℕ) (n : ℕ) → n ≡ row_number c (length row / 3) → n ≡ 0 → shown 0 (write row 0 (put_all entry (entries c))) ≡ shown_in_bytes c row
unfolding shown_in_bytes
filled c row n e h = new_row _ row n _ e h

pub returns-in-Err : goal.returns-in-Err
returns-in-Err c = refused c.args.c c.args.row.now _ (ap refused_by (sym c.in-Err.is) ∙ c.check.ensures) (refusal-some c.in-Err.refusal)

pub returns : goal.returns
returns c =
    let bytes : c.as_flattened.result.now ≡ put_all entry (entries c.args.c) =
    c.as_flattened.ensures.value ∙ c.put_all-entries.ensures ∙ ap (put_all entry) c.entries.ensures in
    rw (c.put.ensures, bytes) (filled c.args.c c.args.row.now _ c.check.ensures (ok-zero _ c.in_default.not-Err))
