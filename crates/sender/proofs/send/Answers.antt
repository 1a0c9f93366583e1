-- `sender::send` meets its contract: each test that the code makes is one of the definition's, the check being told from the parts, and the
-- command that was put into the row is the one that is judged and sent.
-- Assumes nothing.
use Rattle.std.proofs.Common.{◌≡◌, ℕ, ◌≤◌, is_some, List, length, refl, sym, ap, ◌∙◌, arith}
use Rattle.std.proofs.Math.Nat.{sub-zero}
use Rattle.std.specs.List.{slice_range}
use Rattle.std.proofs.lemmas.Result.{err_from_is_err_and}
use lib.ListN.{replicate, length-replicate}
use Rattle.buffer.specs.Bytes.{write}
use Rattle.buffer.proofs.WriteLaws.{take-front, length-write}
use Rattle.frame.specs.Limits.{max_command}
use Rattle.sender.specs.Parts.{command_bytes}
use Rattle.sender.specs.Send.{data_bytes}
use Rattle.sender.proofs.MessageLaws.{given_refusal}
use Rattle.sender.proofs.SendLaws.{numbered, check_numbered, bad_wish, bad_command, long-command, by-room, some_size, name-small, pairs_least}
use Rattle.sender.proofs.send.Goals as goal

pub returns-in_err-check : goal.returns-in_err-check
returns-in_err-check c =
    let a = c.args in
    let p = err_from_is_err_and c.from_residual.result c.from_residual.ensures.1 in
    rw (p.1, p.2)
    (bad_wish a.how (command_bytes a.name.now a.pairs.now a.count) (is_some a.data) (data_bytes a.data) a.out.now _ c.in_err-check.ensures (numbered _))

pub returns-in_err-check-2 : goal.returns-in_err-check-2
returns-in_err-check-2 c =
    let a = c.args in
    let p = err_from_is_err_and c.from_residual-in_err-check-2.result c.from_residual-in_err-check-2.ensures.1 in
    rw (p.1, p.2)
    (bad_command a.how (command_bytes a.name.now a.pairs.now a.count) (is_some a.data) (data_bytes a.data) a.out.now 0 c.in_ok-check.ensures refl
    (λ e. check_numbered _ (c.in_err-check-2.ensures ∙ e)))

pub returns-then-pairs-gt-MAX_COMMAND : goal.returns-then-pairs-gt-MAX_COMMAND
returns-then-pairs-gt-MAX_COMMAND c =
    let a = c.args in
    let good = sym c.in_ok-check-2.ensures in
    long-command a.how (command_bytes a.name.now a.pairs.now a.count) (is_some a.data) (data_bytes a.data) a.out.now 0 c.in_ok-check.ensures refl good
    (omega (arith, c.if-pairs-gt-MAX_COMMAND.true, pairs_least a.name.now a.pairs.now a.count))

pub put_command-n-requires : goal.put_command-n-requires
put_command-n-requires c =
    let a = c.args in
    let good = sym c.in_ok-check-2.ensures in
    (name-small a.name.now a.pairs.now a.count (omega arith) (omega arith) good, c.if-pairs-gt-MAX_COMMAND.false)

row-long : length (replicate {A = ℕ} max_command 0) ≡ max_command
row-long = length-replicate {A = ℕ} max_command 0

-- the row has its 2,048 bytes, and the command at its front where it fits
row_stays : (w v s : List ℕ) → v ≡ write w 0 s → length w ≡ max_command → length v ≡ max_command
row_stays w v s e h = ap length e ∙ length-write w 0 s ∙ h

taken-all : (w v s : List ℕ) (n : ℕ) → n ≡ length s → n ≤ max_command → v ≡ write w 0 s → length w ≡ max_command → slice_range v 0 n ≡ s
taken-all w v s n e l f h = rw (sub-zero, e, f) (take-front w s (omega arith))

pub returns-in_err-command : goal.returns-in_err-command
returns-in_err-command c =
    let a = c.args in
    let good = sym c.in_ok-check-2.ensures in
    let p = err_from_is_err_and c.from_residual-in_err-command.result c.from_residual-in_err-command.ensures.1 in
    let long = rw c.in_err-command.ensures.ok_part at c.get.ensures.lookup.0 in
    let row = row_stays _ _ _ c.put_command-n.ensures.1 row-long in
    rw (p.1, p.2, given_refusal _ _ _ c.in_err-command.ensures.value)
    (long-command a.how (command_bytes a.name.now a.pairs.now a.count) (is_some a.data) (data_bytes a.data) a.out.now 0 c.in_ok-check.ensures refl good
    (omega (arith, long, row, c.put_command-n.ensures.0)))

pub put_message-requires : goal.put_message-requires
put_message-requires c = some_size _ _ c.in_ok-check.ensures refl

pub returns : goal.returns
returns c =
    let a = c.args in
    let good = sym c.in_ok-check-2.ensures in
    let got = rw c.in_ok-command.ensures.ok_part at c.get.ensures.lookup.0 in
    let row = row_stays _ _ _ c.put_command-n.ensures.1 row-long in
    let fits : c.put_command-n.result ≤ max_command = omega (arith, got.1, row) in
    let t = got.2 ∙ taken-all _ _ _ _ c.put_command-n.ensures.0 fits c.put_command-n.ensures.1 row-long in
    rw t at c.put_message.ensures
    ∙ by-room a.how (command_bytes a.name.now a.pairs.now a.count) (is_some a.data) (data_bytes a.data) a.out.now 0 c.in_ok-check.ensures refl good
    (omega (arith, fits, c.put_command-n.ensures.0))
