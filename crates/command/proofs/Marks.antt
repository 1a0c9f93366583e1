-- The mark of a command that passes the check: it is one item, so that its heads one behind the other are those of its value.
-- Assumes nothing.
use Rattle.std.specs.Prelude.{Ok, Err, is_ok}
use mathlib.Core.Path.{◌≡◌, refl, sym, ◌∙◌}
use mathlib.Core.Bool.{Bool, true, false, cond, false≢true}
use mathlib.Core.List.{List}
use Prim.Native.Nat.{ℕ}
use native.Mathlib.Omega.{arith}
use mir.Val.{bool_byte}
use Rattle.cbor.specs.Cbor.{if_map, item_at, is_item}
use Rattle.entries.specs.Entries.{entries}
use Rattle.loose.specs.Loose.{loose}
use Rattle.loose.specs.Scan.{scanned}
use Rattle.loose.proofs.ScanLaws.{scan_holds}
use Rattle.command_map.specs.declared.Refusal.TheVariants.{NotItem, NotCommand, DoubleKey}
use Rattle.command_map.specs.CommandMap.{Checked, map_of}
use Rattle.command.specs.Command.{checked, number_of, if_command}
use Rattle.command.specs.Lookup.{mark_of}

is-item : (s : List ℕ) → number_of (checked s) ≡ 0 → is_item s ≡ true
unfolding checked
is-item s = by (is_item s)
  where
    by : (b : Bool) → number_of (cond b (if_map (item_at s 0) (λ n at. map_of s (entries s 7 n at)) (Err NotCommand)) (Err NotItem)) ≡ 0 → b ≡ true
    by true h = refl
    by false h = absurd (omega arith)

accepted : {A : Type 0} (c : Checked) (x y : A) → number_of c ≡ 0 → if_command c (λ start stop count first. x) (λ n. y) ≡ x
accepted (Ok c) x y h = refl
accepted (Err NotItem) x y h = absurd (omega arith)
accepted (Err NotCommand) x y h = absurd (omega arith)
accepted (Err DoubleKey) x y h = absurd (omega arith)

pub marked : (s : List ℕ) (b : Bool) → b ≡ scanned s → number_of (checked s) ≡ 0 → cond b 1 0 ≡ mark_of s
unfolding mark_of
marked s b e h = rw (e, scan_holds s (is-item s h)) (sym (accepted (checked s) (cond (loose s 8 0) 1 0) 0 h))

bit : (b : Bool) → bool_byte b ≡ cond b 1 0
bit true = refl
bit false = refl

-- by what the check and the scan answer
pub mark-passed : (s : List ℕ) (c : Checked) (b : Bool) → c ≡ checked s → is_ok c ≡ true → b ≡ scanned s → bool_byte b ≡ mark_of s
mark-passed s (Ok c) b h k e = let z : number_of (checked s) ≡ 0 = rw (← h) refl in bit b ∙ marked s b e z
mark-passed s (Err x) b h k e = absurd (false≢true k)

pub mark-refused : (s : List ℕ) (c : Checked) → c ≡ checked s → is_ok c ≡ false → 0 ≡ mark_of s
unfolding mark_of
mark-refused s (Ok c) h k = absurd (false≢true (sym k))
mark-refused s (Err x) h k = rw (← h)
