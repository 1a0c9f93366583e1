-- `log_compare::Comparing::heads` meets its contract, by the heads that are whole.
-- Assumes nothing.
use Rattle.std.proofs.Common.{◌≡◌, ◌≤◌, ℕ, min, true, false, [], sym, refl, ◌∙◌, arith}
use Rattle.log_compare.specs.Steps.{standing, took, one, two, is_over, heads_wait, heads_of}
use Rattle.log_compare.proofs.Moved.{Taken, taken, whole-head, short-head, enough, both_law, first_law, second_law, wait_law, heads_both, heads_first, heads_second, heads_none, neither}
use Rattle.log_compare.proofs.Comparing.heads.Goals.{in_default-via-in-Some-None+else-is_over, in_default-via-in-None-Some+else-is_over-2, in_default-via-in-None+in_default}
use Rattle.log_compare.proofs.Comparing.heads.Goals as goal

wanted : (n m : ℕ) → n ≤ m → min n m ≡ n
wanted n m h = omega arith

pub returns-in-Some-Some : goal.returns-in-Some-Some
unfolding standing took
returns-in-Some-Some c =
    let s = standing c.args.self in
    let a = c.args.a.bytes.now in
    let b = c.args.b.bytes.now in
    let i = whole-head (one s a b) c.head_at.result c.head_at.ensures c.in-Some-Some.one c.in-Some-Some.is-0 in
    let j = whole-head (two s a b) c.head_at-2.result c.head_at-2.ensures c.in-Some-Some.two c.in-Some-Some.is-1 in
    let l = enough s.first a i.long in
    let k = enough s.second b j.long in
    let p = taken c.wanted-x.ensures (wanted _ _ l) l in
    let q = taken c.wanted-y.ensures (wanted _ _ k) k in
    c.compared.ensures
    ∙ rw c.begins-next.ensures (both_law s a b p q refl i.is j.is c.eq.result (sym c.eq.ensures))
    ∙ heads_both s a c.args.a.is_last b c.args.b.is_last true true i.long j.long refl

pub returns-in-Some-None : goal.returns-in-Some-None
unfolding standing took
returns-in-Some-None c =
    let s = standing c.args.self in
    let a = c.args.a.bytes.now in
    let b = c.args.b.bytes.now in
    let i = whole-head (one s a b) c.head_at.result c.head_at.ensures c.in-Some-None.one c.in-Some-None.is-0 in
    let j = short-head (two s a b) c.head_at-2.result c.head_at-2.ensures c.in-Some-None.is-1 in
    let l = enough s.first a i.long in
    let p = taken c.wanted-x.ensures (wanted _ _ l) l in
    let q : Taken b [] 0 = record { is = refl; within = omega arith } in
    c.compared-in-Some-None.ensures
    ∙ rw c.begins-next-in-Some-None.ensures (first_law s a b p q refl i.is)
    ∙ heads_first s a c.args.a.is_last b c.args.b.is_last true false i.long j refl (sym c.is_over.ensures ∙ c.if-is_over.true)

pub returns-in-None-Some : goal.returns-in-None-Some
unfolding standing took
returns-in-None-Some c =
    let s = standing c.args.self in
    let a = c.args.a.bytes.now in
    let b = c.args.b.bytes.now in
    let i = short-head (one s a b) c.head_at.result c.head_at.ensures c.in-None-Some.is-0 in
    let j = whole-head (two s a b) c.head_at-2.result c.head_at-2.ensures c.in-None-Some.two c.in-None-Some.is-1 in
    let k = enough s.second b j.long in
    let p : Taken a [] 0 = record { is = refl; within = omega arith } in
    let q = taken c.wanted-y.ensures (wanted _ _ k) k in
    let over : is_over c.args.a.is_last (one s a b) ≡ true = sym c.if-is_over-2.ensures in
    c.compared-in-None-Some.ensures
    ∙ rw c.begins-next-in-None-Some.ensures (second_law s a b p q refl j.is)
    ∙ heads_second s a c.args.a.is_last b c.args.b.is_last false true i j.long refl refl (rw over)

pub returns-in_default : goal.returns-in_default
unfolding standing took
returns-in_default c =
    let s = standing c.args.self in
    let a = c.args.a.bytes.now in
    let b = c.args.b.bytes.now in
    let p = taken c.waiting.ensures refl (omega arith) in
    let q = taken c.waiting-in_default.ensures refl (omega arith) in
    let waits : heads_wait s a b ≡ heads_of s a c.args.a.is_last b c.args.b.is_last =
    elim c.in_default.branch [
      | in_default-via-in-Some-None+else-is_over w ↦
          let i = whole-head (one s a b) c.head_at.result c.head_at.ensures w.in-Some-None.one w.in-Some-None.is-0 in
          let j = short-head (two s a b) c.head_at-2.result c.head_at-2.ensures w.in-Some-None.is-1 in
          heads_none s a c.args.a.is_last b c.args.b.is_last true false i.long j refl (sym w.if-is_over.ensures) (neither (is_over c.args.a.is_last (one s a b)))
      | in_default-via-in-None-Some+else-is_over-2 w ↦
          let i = short-head (one s a b) c.head_at.result c.head_at.ensures w.in-None-Some.is-0 in
          let j = whole-head (two s a b) c.head_at-2.result c.head_at-2.ensures w.in-None-Some.two w.in-None-Some.is-1 in
          let over : is_over c.args.a.is_last (one s a b) ≡ false = sym w.if-is_over-2.ensures in
          heads_none s a c.args.a.is_last b c.args.b.is_last false true i j.long refl refl (rw over)
      | in_default-via-in-None+in_default w ↦
          let i = short-head (one s a b) c.head_at.result c.head_at.ensures w.in_default.is-0 in
          let j = short-head (two s a b) c.head_at-2.result c.head_at-2.ensures w.in_default.is-1 in
          heads_none s a c.args.a.is_last b c.args.b.is_last false false i j refl refl (neither (is_over c.args.a.is_last (one s a b)))
    ] in
    c.taking.ensures ∙ wait_law s a b p q ∙ waits
