-- The flags of the frames that are sent, read back one by one: each is set exactly if it was wished, by the cases of the wishes.
-- Assumes nothing.
use Prim.Native.Nat.{ℕ, ◌%◌, ◌<◌}
use mathlib.Core.Path.{◌≡◌, refl}
use mathlib.Core.Bool.{Bool, true, false, ◌&&◌, ◌||◌, not}
use native.Mathlib.Omega.{arith}
use lib.Dec.{leb, eqb}
use Rattle.frame.specs.Frame.{flag}
use Rattle.sender.specs.Frames.{stream_flags, command_flags, data_flags}

pub record StreamFlags (n : ℕ) (begin end : Bool) : Type 0 where
  pub begins : flag 0x01 n ≡ begin
  pub ends : flag 0x02 n ≡ end
  pub encodes : flag 0x04 n ≡ false
  pub low : leb 0x08 n ≡ false

pub stream-flags : (begin end : Bool) → StreamFlags (stream_flags begin end) begin end
unfolding stream_flags flag
stream-flags true true = record { begins = refl; ends = refl; encodes = refl; low = refl }
stream-flags true false = record { begins = refl; ends = refl; encodes = refl; low = refl }
stream-flags false true = record { begins = refl; ends = refl; encodes = refl; low = refl }
stream-flags false false = record { begins = refl; ends = refl; encodes = refl; low = refl }

pub record CommandFlags (n : ℕ) (with-data first last : Bool) : Type 0 where
  pub new : flag 0x01 n ≡ first
  pub more : flag 0x04 n ≡ not last
  pub follows : flag 0x08 n ≡ with-data
  pub fit : (not (eqb (n % 4) 0) && not (eqb (n % 4) 3)) ≡ true
  pub small : n < 16

pub command-flags : (with-data first last : Bool) → CommandFlags (command_flags with-data first last) with-data first last
unfolding command_flags flag
command-flags true true true = record { new = refl; more = refl; follows = refl; fit = refl; small = omega arith }
command-flags true true false = record { new = refl; more = refl; follows = refl; fit = refl; small = omega arith }
command-flags true false true = record { new = refl; more = refl; follows = refl; fit = refl; small = omega arith }
command-flags true false false = record { new = refl; more = refl; follows = refl; fit = refl; small = omega arith }
command-flags false true true = record { new = refl; more = refl; follows = refl; fit = refl; small = omega arith }
command-flags false true false = record { new = refl; more = refl; follows = refl; fit = refl; small = omega arith }
command-flags false false true = record { new = refl; more = refl; follows = refl; fit = refl; small = omega arith }
command-flags false false false = record { new = refl; more = refl; follows = refl; fit = refl; small = omega arith }

pub record DataFlags (n : ℕ) (last : Bool) : Type 0 where
  pub is_last : eqb n 0x02 ≡ last
  pub fit : (eqb n 0x01 || eqb n 0x02) ≡ true
  pub small : n < 16

pub data_flags_lem : (last : Bool) → DataFlags (data_flags last) last
unfolding data_flags
data_flags_lem true = record { is_last = refl; fit = refl; small = omega arith }
data_flags_lem false = record { is_last = refl; fit = refl; small = omega arith }
