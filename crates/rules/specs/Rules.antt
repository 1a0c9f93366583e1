-- The frame rules 11 to 29, and the record of an accepted frame, over what the frame meets.
use Rattle.std.specs.Prelude.{ℕ, ◌+◌, ◌*◌, Bool, true, false, cond, ◌&&◌, ◌||◌, not, List, [], ◌∷◌, leb, ltb, eqb}
use Rattle.std.specs.Bool.{beq}
use Rattle.requests.specs.declared.Phase.{Phase}
use Rattle.requests.specs.declared.Phase.TheVariants.{Free, Collecting, Waiting}
use Rattle.frame.specs.Limits.{max_payload, max_command}
use Rattle.command.specs.Command.{checked, number_of}
use Rattle.command.specs.Lookup.{mark_of}
use Rattle.frame.specs.Frame.{Frame, is_even, begins, is_type, is_new, is_more, data_follows, is_last, flags_fit}
use Rattle.frame.specs.Settings.{is_identity}
use Rattle.frame.specs.Records.{bit, request_record}
use Rattle.requests.specs.Phases.{is_phase, takes_data}

pub record View : Type 0 where
  -- the frame's stream is open
  pub is_open : Bool
  -- its request's phase and data bit
  pub phase : Phase
  pub databit : Bool
  -- no slot is free
  pub full : Bool
  -- the command's length and bytes with this frame
  pub size : ℕ
  pub command : List ℕ

pub record Rule : Type 0 where
  pub number : ℕ
  pub broken : Frame → View → Bool

abbrev pub rule : ℕ → (Frame → View → Bool) → Rule
rule n test = record { number = n; broken = test }

unfoldable pub is_command : Frame → Bool
is_command f = is_type 1 f

-- the check of a whole command
unfoldable pub check_of : List ℕ → ℕ
check_of bytes = number_of (checked bytes)

unfoldable pub judged : ℕ → Frame → View → Bool
judged n f v = is_command f && not (is_more f) && eqb (check_of v.command) n

-- 11, which is judged on the eighth byte: over the payload length
abbrev pub overlong : ℕ → Bool
overlong n = ltb max_payload n

-- the others, which are judged on the last byte, in number order
unfoldable pub rules : List Rule
rules =
    rule 12 (λ f v. is_even f.request)
    ∷ rule 13 (λ f v. is_even f.stream)
    ∷ rule 14 (λ f v. leb 0x08 f.stream_flags)
    ∷ rule 15 (λ f v. not (is_type 1 f || is_type 2 f || is_type 9 f))
    ∷ rule 16 (λ f v. not v.is_open && not (begins f))
    ∷ rule 17 (λ f v. v.is_open && begins f)
    ∷ rule 18 (λ f v. not (flags_fit f))
    ∷ rule 19 (λ f v. is_command f && is_new f && not (is_phase Free v.phase))
    ∷ rule 20 (λ f v. is_command f && is_new f && v.full)
    ∷ rule 21 (λ f v. is_command f && not (is_new f) && not (is_phase Collecting v.phase))
    ∷ rule 22 (λ f v. is_command f && not (is_new f) && not (beq (data_follows f) v.databit))
    ∷ rule 23 (λ f v. is_command f && ltb max_command v.size)
    ∷ rule 24 (judged 24)
    ∷ rule 25 (judged 25)
    ∷ rule 26 (judged 26)
    ∷ rule 27 (λ f v. is_type 2 f && not (takes_data v.phase))
    ∷ rule 28 (λ f v. is_type 9 f && not (begins f))
    ∷ rule 29 (λ f v. is_type 9 f && not (is_identity f.payload))
    ∷ []

-- the number of the first broken rule, 0 where none is
unfoldable pub first_broken : List Rule → Frame → View → ℕ
first_broken [] f v = 0
first_broken (x ∷ xs) f v = elim (x.broken f v) [ true ↦ x.number | false ↦ first_broken xs f v ]

-- a command's third body byte: the data bit, plus 2 if one of its heads is not the shortest (E5)
unfoldable pub command_byte : Bool → List ℕ → ℕ
command_byte with-data command = bit with-data + 2 * mark_of command

-- a whole command: all its payloads, joined in order; data that its request waits for: the payload; other frames give none
unfoldable pub record_with : Frame → View → List ℕ
record_with f v =
    cond (is_command f && not (is_more f)) (request_record 1 f.request (command_byte (data_follows f) v.command) v.command)
    (cond (is_type 2 f && is_phase Waiting v.phase) (request_record 2 f.request (bit (is_last f)) f.payload)
    [])
