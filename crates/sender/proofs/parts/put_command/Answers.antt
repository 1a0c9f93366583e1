-- `sender::parts::put_command` meets its contract: the six parts of a command, one behind the other.
-- Assumes nothing.
use Rattle.std.proofs.Common.{◌≡◌, ℕ, ◌≤◌, length, arith}
use Rattle.cbor.specs.Heads.{head_bytes}
use Rattle.cbor.proofs.HeadLaws.{head-most}
use Rattle.sender.proofs.CommandLaws.{command-long, command-put}
use Rattle.sender.proofs.parts.put_command.Goals as goal

head_small : (major n r : ℕ) → r ≡ length (head_bytes major n) → r ≤ 9
head_small major n r e = rw e (head-most major n)

pub overflow_add-start : goal.overflow_add-start
overflow_add-start c = record { fits = omega (arith, head_small _ _ _ c.put_head-start.ensures.0) }

pub overflow_add-stop : goal.overflow_add-stop
overflow_add-stop c = record { fits = omega (arith, head_small _ _ _ c.put_head-start.ensures.0, c.requires.0) }

pub overflow_add-first : goal.overflow_add-first
overflow_add-first c = record { fits = omega (arith, head_small _ _ _ c.put_head-start.ensures.0, c.requires.0) }

pub overflow_add-stop-2 : goal.overflow_add-stop-2
overflow_add-stop-2 c = record { fits = omega (arith, head_small _ _ _ c.put_head-start.ensures.0, c.requires.0) }

pub overflow_add-first-2 : goal.overflow_add-first-2
overflow_add-first-2 c = record { fits = omega (arith, head_small _ _ _ c.put_head-start.ensures.0, head_small _ _ _ c.put_head.ensures.0, c.requires.0) }

pub overflow_add-result : goal.overflow_add-result
overflow_add-result c =
    record { fits = omega (arith, head_small _ _ _ c.put_head-start.ensures.0, head_small _ _ _ c.put_head.ensures.0, c.requires.0, c.requires.1) }

pub returns : goal.returns
returns c =
    let a = c.args in
    let h = c.put_head-start.ensures in
    let k = c.put_head.ensures in (
      command-long a.name.now a.pairs.now a.count _ _ h.0 k.0,
      command-put a.name.now a.pairs.now a.count _ _ h.0 k.0 a.out.now _ _ _ _ _ _ c.put.ensures h.1 c.put-2.ensures c.put-3.ensures k.1 c.put-4.ensures,
    )
