-- Lines of a table: what stands before the first line end, and behind it. Assumes nothing.
use Rattle.std.proofs.Common.{◌≡◌, ℕ, zero, suc, ◌+◌, ◌-◌, ◌<◌, ◌≤◌, Bool, true, false, cond, eqb, Some, None, List, [], ◌∷◌, length, take, drop, refl, ap, sym, ◌∙◌, arith, ltb-false, take_all, drop_of_length-le, length-drop}
use Rattle.std.specs.List.{position, position_or_len}
use Rattle.files.specs.Words.{line_of, behind_line, behind_lines}

abbrev ends : ℕ → Bool
ends b = eqb b 10

skips : (s : List ℕ) (b : ℕ) → eqb b 10 ≡ false → position_or_len ends (b ∷ s) ≡ suc (position_or_len ends s)
skips s b e = rw e (omega arith)

before-end : (s : List ℕ) → take (position_or_len ends s) s ≡ line_of s
unfolding line_of
before-end [] = refl
before-end (b ∷ s) = case (eqb b 10) refl (before-end s)
  where
    case : (t : Bool) → eqb b 10 ≡ t → take (position_or_len ends s) s ≡ line_of s → take (position_or_len ends (b ∷ s)) (b ∷ s) ≡ line_of (b ∷ s)
    case true e h = rw e refl
    case false e h = rw (skips s b e, e) (ap (λ x. b ∷ x) h)

behind-end : (s : List ℕ) → drop (suc (position_or_len ends s)) s ≡ behind_line s
unfolding behind_line
behind-end [] = refl
behind-end (b ∷ s) = case (eqb b 10) refl (behind-end s)
  where
    case : (t : Bool) → eqb b 10 ≡ t → drop (suc (position_or_len ends s)) s ≡ behind_line s → drop (suc (position_or_len ends (b ∷ s))) (b ∷ s) ≡ behind_line (b ∷ s)
    case true e h = rw e refl
    case false e h = rw (skips s b e, e) h

some-is : (t : Bool) (m i : ℕ) → cond t (Some m) None ≡ Some i → m ≡ i
some-is true m i e = cc
some-is false m i e = cc

none-is : (t : Bool) (m : ℕ) → cond t (Some m) None ≡ None → t ≡ false
none-is true m e = cc
none-is false m e = refl

module _ (s : List ℕ) where
  pub up_to_end : (i : ℕ) → position ends s ≡ Some i → take i s ≡ line_of s
  up_to_end i e = rw (← some-is _ _ _ e) (before-end s)

  pub from_end : (i : ℕ) → position ends s ≡ Some i → take (length s - (i + 1)) (drop (i + 1) s) ≡ behind_line s
  from_end i e =
      let k : i + 1 ≡ suc (position_or_len ends s) = omega (arith, some-is _ _ _ e) in
      take_all (length s - (i + 1)) (drop (i + 1) s) (omega (arith, length-drop (i + 1) s)) ∙ rw k (behind-end s)

  module _ (e : position ends s ≡ None) where
    past : length s ≤ position_or_len ends s
    past = ltb-false (position_or_len ends s) (length s) (none-is _ _ e)

    pub one_line : s ≡ line_of s
    one_line = sym (take_all (position_or_len ends s) s past) ∙ before-end s

    pub none_behind : [] ≡ behind_line s
    none_behind = let h : length s ≤ suc (position_or_len ends s) = omega (arith, past) in sym (drop_of_length-le s h) ∙ behind-end s

-- no line end is left
pub at_row : (s : List ℕ) (n : ℕ) → n ≡ 0 → behind_lines n s ≡ s
unfolding behind_lines
at_row s n e = rw e refl

-- one line end less is left, or there are no bytes
pub passes : (s : List ℕ) (n : ℕ) → 0 < n → behind_lines n s ≡ behind_lines (n - 1) (behind_line s)
unfolding behind_lines
passes s zero k = absurd (omega arith)
passes s (suc n) k = let m : suc n - 1 ≡ n = omega arith in rw m refl

pub none_left : (s : List ℕ) (n : ℕ) → length s ≡ 0 → s ≡ behind_lines n s
unfolding behind_lines behind_line
none_left s zero e = refl
none_left [] (suc n) e = none_left [] n e
none_left (b ∷ s) (suc n) e = absurd (omega arith)
