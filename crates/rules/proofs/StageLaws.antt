-- The rules by their stages: what the first twelve leave to the others, and what the others say of each kind of frame.
-- Assumes nothing.
use Rattle.std.specs.Prelude.{Ok, Err}
use Prim.Native.Nat.{ℕ, zero, suc, ◌≤◌, ◌<◌}
use mathlib.Core.Path.{◌≡◌, refl, sym, ◌∙◌}
use mathlib.Core.Bool.{Bool, true, false, cond, ◌&&◌, not, false≢true, true≢false}
use mathlib.Core.List.{List}
use native.Mathlib.Omega.{arith}
use lib.ListN.{drop}
use lib.Dec.{eqb}
use borrow.Author.Tests.{eqb-true}
use Rattle.command_map.specs.declared.Refusal.TheVariants.{NotItem, NotCommand, DoubleKey}
use Rattle.command_map.specs.CommandMap.{Checked}
use Rattle.command.specs.Command.{checked, number_of}
use Rattle.frame.specs.Frame.{Frame, is_type, is_more}
use Rattle.rules.specs.Rules.{View, is_command, check_of, judged, rules, first_broken}
use Rattle.rules.specs.Stages.{head_rules, last_rules, tried, StagesHold}
use Rattle.rules.proofs.RuleLaws.{in_range, first_rest, first-among}

-- 24 to 26 and what follows: t tells whether the command is whole, k is the check's number
abbrev three : Bool → ℕ → ℕ → ℕ
three t k rest =
    elim (t && eqb k 24) as (λ _. ℕ) [
      | true ↦ 24
      | false ↦ elim (t && eqb k 25) as (λ _. ℕ) [ true ↦ 25 | false ↦ elim (t && eqb k 26) as (λ _. ℕ) [ true ↦ 26 | false ↦ rest ] ]
    ]

three_no : (t : Bool) (k rest : ℕ) → t ≡ false → three t k rest ≡ rest
three_no true k rest e = absurd (true≢false e)
three_no false k rest e = refl

three-yes : (t : Bool) (c : Checked) (rest : ℕ) → t ≡ true → rest ≡ 0 → three t (number_of c) rest ≡ number_of c
three-yes false c rest e q = absurd (false≢true e)
three-yes true (Ok c) rest e q = q
three-yes true (Err NotItem) rest e q = refl
three-yes true (Err NotCommand) rest e q = refl
three-yes true (Err DoubleKey) rest e q = refl

-- the number of a command that is refused
three_range : (c : Checked) (n : ℕ) → number_of c ≡ n → (n ≡ 0 → ⊥) → (24 ≤ n) × (n ≤ 26)
three_range (Ok c) n e h = absurd (h (sym e))
three_range (Err NotItem) n e h = omega arith
three_range (Err NotCommand) n e h = omega arith
three_range (Err DoubleKey) n e h = omega arith

pub check_range : (bytes : List ℕ) (n : ℕ) → check_of bytes ≡ n → (n ≡ 0 → ⊥) → (24 ≤ n) × (n ≤ 26)
unfolding check_of
check_range bytes n e h = three_range (checked bytes) n e h

-- a command frame has no other type
pub no_other : (f : Frame) (n : ℕ) → eqb 1 n ≡ false → is_command f ≡ true → is_type n f ≡ false
unfolding is_command is_type
no_other f n e c = rw (eqb-true f.type 1 c) e

module _ (f : Frame) (v : View) where
  last_none : is_command f ≡ true → first_broken last_rules f v ≡ 0
  unfolding rules first_broken
  last_none c = rw (no_other f 2 refl c, no_other f 9 refl c, first_broken) (rw (no_other f 9 refl c))

  -- rules 24 to 29 of a command frame that more frames follow, of one that makes its command whole, and of a frame that is no command
  pub rest_more : is_command f ≡ true → is_more f ≡ true → first_broken (drop 12 rules) f v ≡ 0
  unfolding rules first_broken judged
  rest_more c m = three_no (is_command f && not (is_more f)) (check_of v.command) (first_broken last_rules f v) (rw (c, m)) ∙ last_none c

  pub rest-whole : is_command f ≡ true → is_more f ≡ false → first_broken (drop 12 rules) f v ≡ check_of v.command
  unfolding rules first_broken judged check_of
  rest-whole c m = three-yes (is_command f && not (is_more f)) (checked v.command) (first_broken last_rules f v) (rw (c, m)) (last_none c)

  pub rest-other : is_command f ≡ false → first_broken (drop 12 rules) f v ≡ first_broken last_rules f v
  unfolding rules first_broken judged
  rest-other c = three_no (is_command f && not (is_more f)) (check_of v.command) (first_broken last_rules f v) (rw c)

  -- all the rules, by the first twelve
  pub all_head : (n : ℕ) → first_broken head_rules f v ≡ n → (n ≡ 0 → ⊥) → (first_broken rules f v ≡ n) × (n < 24)
  unfolding rules
  all_head zero e h = absurd (h refl)
  all_head (suc n) e h =
      let (a, b) = in_range f v head_rules 12 23 n refl e in
      (first-among f v head_rules (drop 12 rules) (λ q. h (sym e ∙ q)) ∙ e, omega arith)

  pub all_rest : first_broken head_rules f v ≡ 0 → first_broken rules f v ≡ first_broken (drop 12 rules) f v
  unfolding rules
  all_rest e = first_rest f v head_rules (drop 12 rules) 12 23 (omega arith) refl e

  -- where no rule is broken, or the first broken one comes later, the first twelve hold
  pub head-none : (n : ℕ) → first_broken rules f v ≡ n → (1 ≤ n → 24 ≤ n) → first_broken head_rules f v ≡ 0
  head-none n e h = go (first_broken head_rules f v) refl
    where
      go : (k : ℕ) → first_broken head_rules f v ≡ k → k ≡ 0
      go zero q = refl
      go (suc k) q =
          let (a, b) = all_head (suc k) q (λ z. omega arith) in
          let same : n ≡ suc k = sym e ∙ a in
          absurd (omega (arith, h (omega arith)))

  -- only a command frame is refused with 24, 25 or 26
  pub of_command : (n : ℕ) → first_broken rules f v ≡ n → 24 ≤ n → n ≤ 26 → is_command f ≡ true
  unfolding rules
  of_command zero e a b = absurd (omega arith)
  of_command (suc n) e a b = go (is_command f) refl
    where
      go : (t : Bool) → is_command f ≡ t → t ≡ true
      go true c = refl
      go false c =
          let last : first_broken last_rules f v ≡ suc n = sym (rest-other c) ∙ sym (all_rest (head-none (suc n) e (λ _. a))) ∙ e in
          let (x, y) = in_range f v last_rules 27 29 n refl last in
          absurd (omega arith)

-- the stages, put together
pub stages_hold : StagesHold
unfolding tried
stages_hold f v = by-head (first_broken head_rules f v) refl
  where
    rest : ℕ
    rest = cond (is_command f) (cond (is_more f) 0 (check_of v.command)) (first_broken last_rules f v)

    by_kind : (c m : Bool) → is_command f ≡ c → is_more f ≡ m → first_broken (drop 12 rules) f v ≡ cond c (cond m 0 (check_of v.command)) (first_broken last_rules f v)
    by_kind true true c m = rest_more f v c m
    by_kind true false c m = rest-whole f v c m
    by_kind false m c q = rest-other f v c

    by-head : (n : ℕ) → first_broken head_rules f v ≡ n → first_broken rules f v ≡ tried n true rest
    by-head zero e = all_rest f v e ∙ by_kind (is_command f) (is_more f) refl refl
    by-head (suc n) e = (all_head f v (suc n) e (λ h. omega arith)).0
