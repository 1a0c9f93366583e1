-- What the sending call answers in each of its cases, by the tests that the code makes.
-- Assumes nothing.
use mathlib.Core.Path.{◌≡◌, refl}
use mathlib.Core.Bool.{Bool, true, false, cond, ◌||◌, not}
use mathlib.Core.List.{List}
use Prim.Native.Nat.{ℕ, ◌^◌, ◌≤◌, ◌<◌}
use native.Mathlib.Omega.{arith}
use lib.ListN.{length}
use lib.Dec.{ltb, leb, eqb}
use borrow.Author.Tests.{eqb-false, lt-ltb, le-ltb, ne_eqb, leb-true}
use Rattle.cbor.specs.Cbor.{whole}
use Rattle.frame.specs.Frame.{is_even}
use Rattle.frame.specs.Limits.{max_command}
use Rattle.std.specs.Prelude.{Err}
use Rattle.std.proofs.Math.Nat.{pos_of_ne-zero}
use Rattle.std.proofs.lemmas.Bool.{and_parts}
use Rattle.command_map.specs.declared.Refusal as check
use Rattle.command_map.specs.declared.Refusal.TheVariants.{NotItem, NotCommand, DoubleKey}
use Rattle.command_map.specs.CommandMap as map
use Rattle.command_map.specs.CommandMap.{Checked}
use Rattle.command.specs.Command.{checked, number_of}
use Rattle.sender.specs.declared.Refusal.{Refusal}
use Rattle.sender.specs.declared.Refusal.TheVariants.{EvenId, Size, BadCommand, LongCommand, ShortOutput}
use Rattle.sender.specs.declared.Wishes.{Wishes}
use Rattle.sender.specs.Parts.{command_bytes, pairs_end, name_fits, parts_checked}
use Rattle.sender.specs.Frames.{message_frames}
use Rattle.buffer.specs.Answers.{Answer, refused}
use Rattle.sender.specs.Send.{refusal_number, max_size, frames_into, send_of}
use Rattle.sender.specs.Steps.{wish_number}
use Rattle.sender.proofs.PartLaws.{checked-by_parts}
use Rattle.sender.proofs.CommandLaws.{command-long}

-- a refusal's number is not 0
pub numbered : (r : Refusal) → refusal_number r ≡ 0 → ⊥
numbered EvenId e = omega arith
numbered Size e = omega arith
numbered BadCommand e = omega arith
numbered LongCommand e = omega arith
numbered ShortOutput e = omega arith

pub check_numbered : (r : check.Refusal) → map.refusal_number r ≡ 0 → ⊥
check_numbered NotItem e = omega arith
check_numbered NotCommand e = omega arith
check_numbered DoubleKey e = omega arith

-- the refusals before the command is judged
before-command : (a b : Bool) (n : ℕ) (out : List ℕ) (x : Answer) → n ≡ cond a 50 (cond b 51 0) → (n ≡ 0 → ⊥) → refused n out ≡ cond a (refused 50 out) (cond b (refused 51 out) x)
before-command true b n out x e h = rw e
before-command false true n out x e h = rw e
before-command false false n out x e h = absurd (h e)

past_wishes : (a b : Bool) (n : ℕ) (x y z : Answer) → n ≡ cond a 50 (cond b 51 0) → n ≡ 0 → cond a y (cond b z x) ≡ x
past_wishes true b n x y z e h = absurd (omega arith)
past_wishes false true n x y z e h = absurd (omega arith)
past_wishes false false n x y z e h = refl

module _ (how : Wishes) (command : List ℕ) (d : Bool) (bytes out : List ℕ) (n : ℕ) (e : n ≡ wish_number how) where
  pub bad_wish : (n ≡ 0 → ⊥) → refused n out ≡ send_of how command d bytes out
  unfolding send_of wish_number
  bad_wish h = before-command (is_even how.request || is_even how.stream) (eqb how.size 0 || ltb max_size how.size) n out _ e h

  module _ (z : n ≡ 0) where
    judged : send_of how command d bytes out
        ≡ cond (not (eqb (number_of (checked command)) 0)) (refused 52 out) (cond (ltb max_command (length command)) (refused 53 out) (frames_into (message_frames how command d bytes) out))
    unfolding send_of wish_number
    judged = past_wishes (is_even how.request || is_even how.stream) (eqb how.size 0 || ltb max_size how.size) n _ _ _ e z

    pub bad_command : (number_of (checked command) ≡ 0 → ⊥) → refused 52 out ≡ send_of how command d bytes out
    bad_command h = rw (judged, ne_eqb (number_of (checked command)) 0 h)

    module _ (k : number_of (checked command) ≡ 0) where
      pub long-command : max_command < length command → refused 53 out ≡ send_of how command d bytes out
      long-command h = rw (judged, k, lt-ltb max_command (length command) h)

      pub by-room : length command ≤ max_command → frames_into (message_frames how command d bytes) out ≡ send_of how command d bytes out
      by-room h = rw (judged, k, le-ltb max_command (length command) h)

-- a size that passes is above 0
some : (a b c : Bool) (n : ℕ) → n ≡ cond a 50 (cond (b || c) 51 0) → n ≡ 0 → b ≡ false
some true b c n e h = absurd (omega arith)
some false true c n e h = absurd (omega arith)
some false false c n e h = refl

pub some_size : (how : Wishes) (n : ℕ) → n ≡ wish_number how → n ≡ 0 → 0 < how.size
unfolding wish_number
some_size how n e h = pos_of_ne-zero (eqb-false how.size 0 (some (is_even how.request || is_even how.stream) (eqb how.size 0) (ltb max_size how.size) n e h))

-- a command that passes the check has a name of at most 64 bytes
named : (w n : Bool) (c : Checked) → number_of (cond w (cond n c (Err NotCommand)) (Err NotItem)) ≡ 0 → n ≡ true
named true true c h = refl
named true false c h = absurd (omega arith)
named false n c h = absurd (omega arith)

pub name-small : (name pairs : List ℕ) (count : ℕ) → length name < 2 ^ 64 → count < 2 ^ 64 → number_of (checked (command_bytes name pairs count)) ≡ 0 → length name ≤ 64
unfolding parts_checked name_fits
name-small name pairs count hn hc h =
    leb-true (length name) 64 (and_parts (leb 1 (length name)) _ (named (whole pairs (pairs_end pairs count)) (name_fits name) _ (rw (checked-by_parts name pairs count hn hc) at h))).1

pub pairs_least : (name pairs : List ℕ) (count : ℕ) → length pairs ≤ length (command_bytes name pairs count)
pairs_least name pairs count = omega (arith, command-long name pairs count _ _ refl refl)
