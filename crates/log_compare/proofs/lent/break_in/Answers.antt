-- `log_compare::lent::break_in` meets its contract, by what the reading of a whole log tells.
-- Assumes nothing.
use Rattle.std.proofs.Common.{sym, ap, ◌∙◌, arith}
use Rattle.log_compare.specs.Scan.{scan_of, scan_view}
use Rattle.log_compare.specs.declared.Scanning.{Scanning}
use Rattle.log_compare.proofs.Lents.{ended, is-broken, not_broken}
use Rattle.log_compare.proofs.lent.break_in.Goals as goal

pub returns-then-read : goal.returns-then-read
returns-then-read c =
    let log = c.args.log.now in
    let t = ended c.scan-read.result log (omega arith) (c.scan-read.ensures ∙ ap (λ (s : Scanning). scan_of (scan_view s) log) c.start.ensures) in
    sym (not_broken log (sym t.start ∙ c.if-read.true ∙ t.place))

pub returns : goal.returns
returns c =
    let log = c.args.log.now in
    let t = ended c.scan-read.result log (omega arith) (c.scan-read.ensures ∙ ap (λ (s : Scanning). scan_of (scan_view s) log) c.start.ensures) in
    rw t.start (sym (is-broken log (λ e. c.if-read.false (t.start ∙ e ∙ sym t.place))))
