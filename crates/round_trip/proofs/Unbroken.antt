-- Which frames break no rule: the rules are tried one by one, and a rule of another frame type does not apply. Assumes nothing.
use Prim.Native.Nat.{ℕ, ◌<◌}
use mathlib.Core.Path.{◌≡◌, refl}
use mathlib.Core.Bool.{Bool, true, false, ◌&&◌, ◌||◌, not, beq}
use mathlib.Core.List.{List, [], ◌∷◌}
use native.Mathlib.Omega.{arith}
use lib.ListN.{drop}
use lib.Dec.{leb, ltb, eqb}
use Rattle.requests.specs.declared.Phase.TheVariants.{Free, Collecting, Waiting}
use Rattle.requests.specs.Phases.{is_phase}
use Rattle.frame.specs.Limits.{max_command}
use Rattle.frame.specs.Frame.{Frame, is_even, begins, is_type, is_new, is_more, data_follows, flags_fit}
use Rattle.rules.specs.Rules.{View, Rule, is_command, check_of, judged, rules, first_broken}

step : (f : Frame) (v : View) (x : Rule) (xs : List Rule) → x.broken f v ≡ false → first_broken xs f v ≡ 0 → first_broken (x ∷ xs) f v ≡ 0
unfolding first_broken
step f v x xs h k = rw h k

done : (f : Frame) (v : View) → first_broken [] f v ≡ 0
unfolding first_broken
done f v = refl

closed : (b : Bool) → (not (not b) && not b) ≡ false
closed true = refl
closed false = refl

opened : (b : Bool) → (not b && b) ≡ false
opened true = refl
opened false = refl

-- what every frame of a message has: odd ids, stream flags below 8, its stream open exactly if it does not begin it, flags of its type
pub record Regular (f : Frame) (v : View) : Type 0 where
  pub request : is_even f.request ≡ false
  pub stream : is_even f.stream ≡ false
  pub low : leb 0x08 f.stream_flags ≡ false
  pub is_open : v.is_open ≡ not (begins f)
  pub fit : flags_fit f ≡ true

-- 12 to 18 pass, so the number is that of the others
regular-passes : (f : Frame) (v : View) → Regular f v → (is_type 1 f || is_type 2 f || is_type 9 f) ≡ true → first_broken (drop 7 rules) f v ≡ 0 → first_broken rules f v ≡ 0
unfolding rules
regular-passes f v r t k =
    step f v _ _ r.request
    (step f v _ _ r.stream
    (step f v _ _ r.low
    (step f v _ _ (rw t)
    (step f v _ _ (rw r.is_open (closed (begins f)))
    (step f v _ _ (rw r.is_open (opened (begins f)))
    (step f v _ _ (rw r.fit) k))))))

-- what 19 to 26 ask of a command frame
pub record RegularCommand (f : Frame) (v : View) : Type 0 where
  pub type : f.type ≡ 1
  pub regular : Regular f v
  pub inactive : (is_new f && not (is_phase Free v.phase)) ≡ false
  pub free : (is_new f && v.full) ≡ false
  pub collects : (not (is_new f) && not (is_phase Collecting v.phase)) ≡ false
  pub same_bit : (not (is_new f) && not (beq (data_follows f) v.databit)) ≡ false
  pub short : ltb max_command v.size ≡ false
  pub passes : (n : ℕ) → 0 < n → (not (is_more f) && eqb (check_of v.command) n) ≡ false

pub command_unbroken : (f : Frame) (v : View) → RegularCommand f v → first_broken rules f v ≡ 0
unfolding rules is_command is_type judged is_new data_follows is_more
command_unbroken f v c =
    let t = c.type in
    regular-passes f v c.regular (rw t)
    (step f v _ _ (rw t c.inactive)
    (step f v _ _ (rw t c.free)
    (step f v _ _ (rw t c.collects)
    (step f v _ _ (rw t c.same_bit)
    (step f v _ _ (rw t c.short)
    (step f v _ _ (rw t (c.passes 24 (omega arith)))
    (step f v _ _ (rw t (c.passes 25 (omega arith)))
    (step f v _ _ (rw t (c.passes 26 (omega arith)))
    (step f v _ _ (rw t) (step f v _ _ (rw t) (step f v _ _ (rw t) (done f v))))))))))))

-- a data frame, whose request waits for it: 19 to 26, 28 and 29 are of other types
pub data_unbroken : (f : Frame) (v : View) → f.type ≡ 2 → Regular f v → is_phase Waiting v.phase ≡ true → first_broken rules f v ≡ 0
unfolding rules is_command is_type judged
data_unbroken f v t r w =
    regular-passes f v r (rw t)
    (step f v _ _ (rw t) (step f v _ _ (rw t) (step f v _ _ (rw t) (step f v _ _ (rw t)
    (step f v _ _ (rw t) (step f v _ _ (rw t) (step f v _ _ (rw t) (step f v _ _ (rw t)
    (step f v _ _ (rw (t, w))
    (step f v _ _ (rw t) (step f v _ _ (rw t) (done f v))))))))))))
