-- The commands in joined records: a record at the front gives its command, and records of data give none.
-- Assumes nothing.
use Prim.Native.Nat.{ℕ, ◌/◌, ◌%◌, ◌<◌, ◌≤◌}
use mathlib.Core.Path.{◌≡◌, refl, ap, ◌∙◌}
use mathlib.Core.List.{List, [], ◌∷◌, ◌++◌, append-nil}
use native.Mathlib.Omega.{arith}
use lib.ListN.{length}
use Rattle.frame.specs.Frame.{Frame}
use Rattle.frame.specs.Limits.{max_payload}
use Rattle.frame.specs.Records.{request_record, two}
use Rattle.records.proofs.ReadBack.{joined}
use Rattle.logs.specs.Logs.{Stored, records_from, records}
use Rattle.logs.proofs.Joined.{feed_writes, records-join}
use Rattle.round_trip.specs.RoundTrip.{data_records, payloads}
use Rattle.round_trip.specs.Frames.{Filled}
use Rattle.board_session.specs.BoardSession.{with_command, commands_of, commands_in}

-- a record whose bytes are no more than a payload's
module _ (kind request third : ℕ) (bytes rest : List ℕ) (k : kind < 65536) (short : length bytes ≤ max_payload) where
  -- as it is stored
  stored : Stored
  stored = record { low = kind % 256; high = kind / 256 % 256; body = two request ++ third ∷ bytes }

  first : records 4 (request_record kind request third bytes ++ rest) ≡ stored ∷ records 4 rest
  unfolding stored
  first = rw (feed_writes kind (two request ++ third ∷ bytes)) (records-join 4 stored rest (omega arith))

  pub front : commands_in (request_record kind request third bytes ++ rest) ≡ with_command kind bytes (commands_in rest)
  unfolding commands_of stored
  front = rw (first, joined kind k)

-- ---- records of data

pub none : commands_in [] ≡ []
unfolding commands_of records_from
none = refl

abbrev Short : List (List ℕ) → Type 0
Short [] = Unit {0}
Short (p ∷ ps) = (length p ≤ max_payload) × Short ps

pub data_none : (request : ℕ) (ps : List (List ℕ)) → Short ps → commands_in (data_records request ps) ≡ []
unfolding data_records
data_none request [] h = none
data_none request (p ∷ []) h = rw (← append-nil (request_record 2 request 1 p)) (front 2 request 1 p [] (omega arith) h.0 ∙ none)
data_none request (p ∷ q ∷ ps) h = front 2 request 0 p (data_records request (q ∷ ps)) (omega arith) h.0 ∙ data_none request (q ∷ ps) h.1

-- payloads of frames that are full, or as long as the last one is, are short
pub filled-short : (size n : ℕ) (fs : List Frame) → size ≤ max_payload → Filled size n fs → Short (payloads fs)
filled-short size n [] h k = elim k [ ]
filled-short size n (f ∷ fs) h (Filled.full e rest) = (omega (arith, e), filled-short size n fs h rest)
filled-short size n (f ∷ []) h (Filled.last e z) = (omega (arith, e), tt)

-- ---- one command, and behind it records that give none

pub one-command : (request third : ℕ) (command rest : List ℕ) → length command ≤ max_payload → commands_in rest ≡ []
    → commands_in (request_record 1 request third command ++ rest) ≡ command ∷ []
one-command request third command rest short h =
    front 1 request third command rest (omega arith) short ∙ ap (λ (l : List (List ℕ)). command ∷ l) h
