-- Messages written out byte by byte: document 01's trace T1 as it is sent, and a command in frames of 8 with empty data. Proved in
-- proofs/Traces.antt by computation. These are definitions: they assume nothing.
use Rattle.std.specs.Prelude.{ℕ, ◌≡◌, true, false, List, [], ◌∷◌, replicate}
use Rattle.sender.specs.Parts.{command_bytes}
use Rattle.buffer.specs.Answers.{Answer, answer}
use Rattle.sender.specs.Send.{send_of}

-- `set` with no arguments
abbrev pub set-command : List ℕ
set-command = command_bytes (0x73 ∷ 0x65 ∷ 0x74 ∷ []) [] 0

-- request 1 on stream 1, which it begins, into n bytes that are A5
abbrev pub first_sent : ℕ → Answer
first_sent n = send_of (record { request = 1; stream = 1; begin = true; end = false; size = 4096 }) set-command false [] (replicate n 0xA5)

-- the same in frames of 8 bytes, with empty data, request 259 on stream 3, which it ends: two full command frames and an empty data frame
abbrev pub small_sent : Answer
small_sent = send_of (record { request = 259; stream = 3; begin = false; end = true; size = 8 }) set-command true [] (replicate 40 0xA5)

pub record Traces : Type 0 where
  -- T1: 24 bytes are enough, two more stay as they were, one less is too short
  pub first : first_sent 26 ≡ answer 0 24 (
      0x10 ∷ 0 ∷ 0 ∷ 1 ∷ 0 ∷ 1 ∷ 1 ∷ 0x11 ∷ 0xA2 ∷ 0x44 ∷ 0x6E ∷ 0x61 ∷ 0x6D ∷ 0x65 ∷ 0x43 ∷ 0x73 ∷ 0x65 ∷ 0x74 ∷ 0x44 ∷ 0x61 ∷ 0x72 ∷ 0x67 ∷ 0x73 ∷ 0xA0
      ∷ 0xA5 ∷ 0xA5 ∷ [])
  pub short : first_sent 23 ≡ answer 54 0 (replicate 23 0xA5)
  pub small : small_sent ≡ answer 0 40 (
      8 ∷ 0 ∷ 0 ∷ 3 ∷ 1 ∷ 3 ∷ 0 ∷ 0x1D ∷ 0xA2 ∷ 0x44 ∷ 0x6E ∷ 0x61 ∷ 0x6D ∷ 0x65 ∷ 0x43 ∷ 0x73
      ∷ 8 ∷ 0 ∷ 0 ∷ 3 ∷ 1 ∷ 3 ∷ 0 ∷ 0x1A ∷ 0x65 ∷ 0x74 ∷ 0x44 ∷ 0x61 ∷ 0x72 ∷ 0x67 ∷ 0x73 ∷ 0xA0
      ∷ 0 ∷ 0 ∷ 0 ∷ 3 ∷ 1 ∷ 3 ∷ 2 ∷ 0x22 ∷ [])
