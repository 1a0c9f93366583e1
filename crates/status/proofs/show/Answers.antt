-- `status::show` meets its contract: a row that is not refused begins with the slots' entries.
use Rattle.std.proofs.Common.{◌≡◌, sym, ap, ◌∙◌, ℕ, ◌≤◌, List, ◌++◌, length, take, drop}
use lib.ListN.{length-map}
use lib.Seq.{length-take-le}
use Rattle.channel.specs.declared.Channel.{Channel}
use Rattle.channel.proofs.Handed.{eight}
use Rattle.frame.specs.Limits.{slot_count}
use Rattle.status.specs.declared.Entry.{Entry}
use Rattle.status.specs.Row.{entry_of, entries, refused_by, shown, row_number, shown_in}
use Rattle.status.proofs.Rows.{kept_row, new_row, has_eight, refusal-some, ok-zero}
use Rattle.status.proofs.show.Goals as goal

refused : (c : Channel) (ys : List Entry) (r : ℕ) → r ≡ row_number c (length ys) → (r ≡ 0 → ⊥) → shown r ys ≡ shown_in c ys
unfolding shown_in
refused c ys r e h = kept_row (entries c ++ drop slot_count ys) ys r _ e h

filled : (c : Channel) (ys : List Entry) (n : ℕ) → n ≡ row_number c (length ys) → n ≡ 0 → shown 0 (entries c ++ drop slot_count ys) ≡ shown_in c ys
unfolding shown_in
filled c ys n e h = new_row (entries c ++ drop slot_count ys) ys n _ e h

pub returns-in-Err : goal.returns-in-Err
returns-in-Err c = refused c.args.c c.args.row.now _ (ap refused_by (sym c.in-Err.is) ∙ c.check.ensures) (refusal-some c.in-Err.refusal)

pub slice_bounds-copy_from_slice-end : goal.slice_bounds-copy_from_slice-end
slice_bounds-copy_from_slice-end c = has_eight c.args.c _ (sym (ok-zero _ c.in_default.not-Err) ∙ c.check.ensures)

-- as many entries as slots
as_many : (c : Channel) → length c.slots ≡ slot_count → length (entries c) ≡ slot_count
as_many c e = length-map c.slots entry_of ∙ e

pub copy_from_slice-requires : goal.copy_from_slice-requires
copy_from_slice-requires c =
    let room : slot_count ≤ length c.args.row.now = has_eight c.args.c _ (sym (ok-zero _ c.in_default.not-Err) ∙ c.check.ensures) in
    let left : length (take 8 c.args.row.now) ≡ 8 = length-take-le 8 c.args.row.now room in
    left ∙ sym (ap length c.entries.ensures ∙ as_many c.args.c (eight c.args.c _ c.well_formed.0))

pub returns : goal.returns
returns c = rw (c.copy_from_slice.ensures.after, c.entries.ensures) (filled c.args.c c.args.row.now _ c.check.ensures (ok-zero _ c.in_default.not-Err))

pub slice_bounds-copy_from_slice-end-2 : goal.slice_bounds-copy_from_slice-end-2
slice_bounds-copy_from_slice-end-2 c =
    let room : slot_count ≤ length c.args.row.now = has_eight c.args.c _ (sym (ok-zero _ c.in_default.not-Err) ∙ c.check.ensures) in
    sym (length-take-le 8 c.args.row.now room)
