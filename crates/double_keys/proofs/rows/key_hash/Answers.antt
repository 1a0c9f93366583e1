-- `double_keys::key_hash` meets its contract. The loop's invariant: the key's number is made of h and what follows the bytes passed, and h
-- is below 2^32. Assumes nothing.
use Rattle.std.proofs.Common.{refl, sym, ◌∙◌, ◌≤◌, ◌<◌, length, arith}
use native.Mathlib.Numerals.{add-one}
use lib.ListN.{drop_of_length-le}
use lib.Seq.{drop-cons}
use Rattle.double_keys.specs.Search.{hash_from, hash}
use Rattle.double_keys.proofs.rows.key_hash.Goals as goal

pub loop-b-init : goal.loop-b-init
unfolding hash
loop-b-init c = (omega arith, refl)

pub loop-b-preserved : goal.loop-b-preserved
unfolding hash_from
loop-b-preserved c =
    let h : c.loop-b.b-index < length c.args.key.now = omega arith in
    (omega arith, c.loop-b.invariant.1 ∙ rw (add-one, drop-cons c.args.key.now c.loop-b.b-index 0 h))

pub returns : goal.returns
unfolding hash_from
returns c =
    let h : length c.args.key.now ≤ c.loop-b.b-index = omega arith in
    sym (c.loop-b.invariant.1 ∙ rw (drop_of_length-le c.args.key.now h))
