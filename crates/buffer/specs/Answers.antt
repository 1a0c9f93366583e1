-- What a call answers that writes into a lent output and may refuse to: 0 or the refusal, the bytes written, and the output after the call.
-- These are definitions: they assume nothing.
use Rattle.std.specs.Prelude.{ℕ, List, length}
use Rattle.buffer.specs.Bytes.{write}

pub record Answer : Type 0 where
  pub number : ℕ
  pub written : ℕ
  pub output : List ℕ

abbrev pub answer : ℕ → ℕ → List ℕ → Answer
answer number written output = record { number = number; written = written; output = output }

-- the output unchanged
abbrev pub refused : ℕ → List ℕ → Answer
refused n out = answer n 0 out

-- these bytes from its front on; output past them stays
abbrev pub wrote : List ℕ → List ℕ → Answer
wrote bytes out = answer 0 (length bytes) (write out 0 bytes)
