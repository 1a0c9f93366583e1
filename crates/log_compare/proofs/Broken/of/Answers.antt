-- `log_compare::Broken::of` meets its contract, by where each log is broken.
-- Assumes nothing.
use Rattle.std.proofs.Common.{◌≡◌, sym, ◌∙◌}
use Rattle.std.specs.Prelude.{None}
use Rattle.log_compare.specs.Breaks.{break_of}
use Rattle.log_compare.proofs.Lents.{first-broken, second-broken, none-broken}
use Rattle.log_compare.proofs.Broken.of.Goals as goal

pub returns-in-Some : goal.returns-in-Some
returns-in-Some c = sym (first-broken c.args.first.now c.args.second.now c.in-Some.place (sym c.break_in.ensures ∙ c.in-Some.is))

pub returns-in_err-place : goal.returns-in_err-place
returns-in_err-place c =
    let r : c.from_residual.result ≡ None = cc in
    let whole : break_of c.args.first.now ≡ None = sym c.break_in.ensures ∙ c.in_default.is in
    rw r (sym (none-broken c.args.first.now c.args.second.now whole (sym c.break_in-2.ensures ∙ c.in_err-place.was)))

pub returns : goal.returns
returns c =
    let whole : break_of c.args.first.now ≡ None = sym c.break_in.ensures ∙ c.in_default.is in
    sym (second-broken c.args.first.now c.args.second.now whole c.in_ok-place.place (sym c.break_in-2.ensures ∙ c.in_ok-place.was))
