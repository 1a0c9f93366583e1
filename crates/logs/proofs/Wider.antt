-- A log's records rewritten with four-byte lengths: the record in front, and then the rest. Assumes nothing.
use Prim.Native.Nat.{ℕ, suc, ◌+◌, ◌-◌, ◌≤◌, ◌<◌}
use mathlib.Core.Path.{◌≡◌, sym, ap, ◌∙◌}
use mathlib.Core.Bool.{true, false}
use mathlib.Core.List.{List, [], ◌++◌}
use native.Mathlib.Omega.{arith}
use lib.ListN.{length, take, drop, length-append, length-drop}
use lib.Seq.{length-take-le, drop-cons}
use Rattle.buffer.specs.Bytes.{write}
use Rattle.buffer.proofs.WriteLaws.{write-twice, take_of_drop}
use Rattle.logs.specs.Logs.{size, is_there, claimed, stored_bytes, log_of, first_of, records_from, whole_length}
use Rattle.logs.specs.Convert.{wider}
use Rattle.logs.specs.Steps.{widened}
use Rattle.logs.proofs.Walk.{there, more, last, first-length, body-length}

-- a record r in front of some bytes s, and what is behind it
module _ (s r t : List ℕ) (f : (is_there 2 s ≡ true) × (r ≡ take (size 2 s) s) × (t ≡ drop (size 2 s) s)) where
  pub this-length : length r ≡ size 2 s
  this-length = rw (f.1) (length-take-le (size 2 s) s (there 2 s f.0))

  pub least : 4 ≤ length r
  least = omega (arith, this-length)

  pub both-lengths : length r + length t ≡ length s
  both-lengths = rw (f.2) (omega (arith, this-length, there 2 s f.0, length-drop (size 2 s) s))

  wider-on : wider s ≡ stored_bytes 4 (first_of 2 s) ++ wider t
  unfolding wider log_of
  wider-on = rw (more 2 s f.0, f.2)

  pub length-on : length (wider s) ≡ length r + 2 + length (wider t)
  length-on =
      ap length wider-on ∙ length-append (stored_bytes 4 (first_of 2 s)) (wider t) ∙ omega (arith, first-length 2 s f.0 4, this-length)

  pub whole-on : whole_length 2 s ≡ length r + whole_length 2 t
  unfolding whole_length log_of
  whole-on =
      rw (more 2 s f.0, f.2)
      (omega (arith, this-length, first-length 2 s f.0 2, length-append (stored_bytes 2 (first_of 2 s)) (log_of 2 (records_from 2 0 (drop (size 2 s) s)))))

  widened-is : widened r ≡ stored_bytes 4 (first_of 2 s)
  unfolding widened stored_bytes first_of
  widened-is =
      let n = claimed 2 s in
      let l = there 2 s f.0 in
      let a : 2 < length s = omega arith in
      let b : 3 < length s = omega arith in
      let e : length r - 4 ≡ n = omega (arith, this-length) in
      let z : size 2 s ≡ 2 + suc (suc n) = omega arith in
      rw (body-length 2 s f.0, e, f.1, z, ← take_of_drop (suc (suc n)) 2 s, drop-cons s 2 0 a, drop-cons s 3 0 b)

  pub put-on : (out : List ℕ) (to : ℕ) → write out to (wider s) ≡ write (write out to (widened r)) (to + (length r + 2)) (wider t)
  put-on out to =
      let l : length r + 2 ≡ length (widened r) = rw (widened-is) (omega (arith, first-length 2 s f.0 4, this-length)) in
      rw (wider-on, ← widened-is, l) (sym (write-twice out to (widened r) (wider t)))

module _ (s : List ℕ) (m : is_there 2 s ≡ false) where
  pub wider-end : wider s ≡ []
  unfolding wider log_of
  wider-end = rw (last 2 s m)

  pub whole-end : whole_length 2 s ≡ 0
  unfolding whole_length log_of
  whole-end = rw (last 2 s m)
