-- `keys::part` meets its contract: a stop past the end takes no more than the end does.
-- Assumes nothing.
use Rattle.std.proofs.Common.{◌≡◌, refl, ℕ, ◌+◌, ◌-◌, ◌≤◌, ◌<◌, List, [], length, take, drop, arith, length-drop, Bor, Option, Some, None, ◌∙◌, Bool, true, false}
use mathlib.Core.Logic.{⊎_elim}
use Prim.Native.Nat.{min}
use lib.Dec.{ltb}
use lib.ListN.{drop_of_length-le}
use lib.Seq.{take_all, take-nil}
use borrow.Author.Tests.{ltb-true, ltb-false}
use Rattle.std.specs.Slice.{IsGetRangeResult}
use Rattle.std.specs.Option.{unwrap_or}
use Rattle.keys.specs.Keys.{part}
use Rattle.keys.proofs.part.Goals as goal

module _ (s : List ℕ) (start stop : ℕ) where
  -- no more bytes are left from start on than this
  all-left : (n : ℕ) → length s ≤ start + n → take n (drop start s) ≡ drop start s
  all-left n h = take_all n (drop start s) (simp length-drop (omega arith))

  -- nothing starts past the stop, or past the end
  nothing : min stop (length s) < start → [] ≡ part s start stop
  unfolding part
  nothing h = by (ltb (length s) start) refl
    where
      by : (t : Bool) → ltb (length s) start ≡ t → [] ≡ take (stop - start) (drop start s)
      by true e = let l = ltb-true (length s) start e in let k : length s ≤ start = omega arith in rw (drop_of_length-le s k, take-nil)
      by false e = let l = ltb-false (length s) start e in let k : stop - start ≡ 0 = omega arith in rw k

  -- a stop past the end takes what there is
  clamped : take (min stop (length s) - start) (drop start s) ≡ part s start stop
  unfolding part
  clamped = by (ltb (length s) stop) refl
    where
      by : (t : Bool) → ltb (length s) stop ≡ t → take (min stop (length s) - start) (drop start s) ≡ take (stop - start) (drop start s)
      by true e = let l = ltb-true (length s) stop e in rw (all-left (min stop (length s) - start) (omega arith), all-left (stop - start) (omega arith))
      by false e = let l = ltb-false (length s) stop e in let k : min stop (length s) ≡ stop = omega arith in rw k

  taken : (r : Option (Bor (List ℕ))) (d : Bor (List ℕ)) → d.now ≡ [] → IsGetRangeResult s start (min stop (length s)) r → (unwrap_or r d).now ≡ part s start stop
  taken None d e h = e ∙ nothing (⊎_elim (λ (k : min stop (length s) < start). k) (λ (k : length s < min stop (length s)). absurd (omega arith)) h.0)
  taken (Some x) d e h = h.0.2 ∙ clamped

pub returns : goal.returns
returns c =
    let g = rw c.min.ensures at c.get.ensures.lookup in
    rw c.unwrap_or.ensures (taken _ _ _ c.get.result _ refl g)
