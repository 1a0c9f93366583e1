-- `sender::parts::check` meets its contract: it tells the check's answer from the parts, as `checked-by_parts` says.
-- Assumes nothing.
use Rattle.std.proofs.Common.{◌≡◌, ℕ, ◌^◌, ◌<◌, List, true, false, length, Some, None, Ok, sym, ◌∙◌, arith}
use borrow.Author.Tests.{eq-eqb, ne_eqb}
use Rattle.std.proofs.lemmas.Result.{err_from_is_err_and}
use Rattle.double_keys.specs.declared.Keys.{Keys}
use Rattle.double_keys.specs.declared.Keys.TheVariants.{Single, Double, Others}
use Rattle.entries.specs.Entries.{entries}
use Rattle.double_keys.specs.DoubleKeys.{keys_of}
use Rattle.command.specs.Command.{checked, number_of}
use Rattle.sender.specs.Parts.{command_bytes, name_start, name_stop, first_pair, pairs_end, name_fits, by_keys, parts_checked}
use Rattle.sender.proofs.MessageLaws.{given_refusal}
use Rattle.sender.proofs.PartLaws.{checked-by_parts}
use Rattle.sender.proofs.parts.check.Goals as goal

-- the number, case by case
module _ (name pairs : List ℕ) (count : ℕ) (hn : length name < 2 ^ 64) (hc : count < 2 ^ 64) where
  abbrev Number : ℕ → Type 0
  Number n = n ≡ number_of (checked (command_bytes name pairs count))

  broken : None ≡ pairs_end pairs count → Number 24
  unfolding parts_checked
  broken e = rw (checked-by_parts name pairs count hn hc, ← e)

  module _ (q : ℕ) (e : Some q ≡ pairs_end pairs count) where
    rest : (q ≡ length pairs → ⊥) → Number 24
    unfolding parts_checked
    rest d = rw (checked-by_parts name pairs count hn hc, ← e, ne_eqb q (length pairs) d)

    module _ (d : q ≡ length pairs) where
      misnamed : name_fits name ≡ false → Number 25
      unfolding parts_checked
      misnamed h = rw (checked-by_parts name pairs count hn hc, ← e, eq-eqb q (length pairs) d, h)

      by-keys : name_fits name ≡ true → (k : Keys) → k ≡ keys_of pairs (entries pairs 6 count 0)
          → Number (number_of (by_keys k (Ok (record { start = name_start name; stop = name_stop name; count = count; first = first_pair name count }))))
      unfolding parts_checked
      by-keys h k f = rw (checked-by_parts name pairs count hn hc, ← e, eq-eqb q (length pairs) d, h, f)

pub returns-in_err-end : goal.returns-in_err-end
unfolding pairs_end
returns-in_err-end c =
    let a = c.args in
    let p = err_from_is_err_and c.from_residual.result c.from_residual.ensures.1 in
    rw (p.1, p.2, given_refusal _ _ _ c.in_err-end.ensures.value)
    (broken a.name.now a.pairs.now a.count (omega arith) (omega arith) (sym c.in_err-end.ensures.ok_part ∙ c.read_map.ensures))

pub returns-then-end-pairs : goal.returns-then-end-pairs
unfolding pairs_end
returns-then-end-pairs c =
    let a = c.args in
    rest a.name.now a.pairs.now a.count (omega arith) (omega arith) _ (sym c.in_ok-end.ensures.ok_part ∙ c.read_map.ensures) c.if-end-pairs.true

pub returns-then-not-name_fits : goal.returns-then-not-name_fits
unfolding pairs_end
returns-then-not-name_fits c =
    let a = c.args in
    misnamed a.name.now a.pairs.now a.count (omega arith) (omega arith) _ (sym c.in_ok-end.ensures.ok_part ∙ c.read_map.ensures) c.if-end-pairs.false
    (sym c.name_fits.ensures ∙ c.if-not-name_fits.true)

-- past the search of the keys
pub returns-in-Single : goal.returns-in-Single
unfolding pairs_end
returns-in-Single c =
    let a = c.args in
    by-keys a.name.now a.pairs.now a.count (omega arith) (omega arith) _ (sym c.in_ok-end.ensures.ok_part ∙ c.read_map.ensures) c.if-end-pairs.false
    (sym c.name_fits.ensures ∙ c.if-not-name_fits.false) Single c.in-Single.ensures

pub returns-in-Double : goal.returns-in-Double
unfolding pairs_end
returns-in-Double c =
    let a = c.args in
    by-keys a.name.now a.pairs.now a.count (omega arith) (omega arith) _ (sym c.in_ok-end.ensures.ok_part ∙ c.read_map.ensures) c.if-end-pairs.false
    (sym c.name_fits.ensures ∙ c.if-not-name_fits.false) Double c.in-Double.ensures

pub returns-in-Others : goal.returns-in-Others
unfolding pairs_end
returns-in-Others c =
    let a = c.args in
    by-keys a.name.now a.pairs.now a.count (omega arith) (omega arith) _ (sym c.in_ok-end.ensures.ok_part ∙ c.read_map.ensures) c.if-end-pairs.false
    (sym c.name_fits.ensures ∙ c.if-not-name_fits.false) Others c.in-Others.ensures
