-- A feed's number and counts, in document 01's words: the taken count runs to the end of the input, to the byte that 5 stops it before, or
-- through a refused frame's judging byte; the written count is the total length of the records of the bytes taken.
-- These are definitions: they assume nothing.
use Rattle.std.specs.Prelude.{ℕ, suc, ◌-◌, ◌<◌, ◌≡◌, Bool, true, false, ◌&&◌, List, map, length, take, get_or, ltb}
use Rattle.session.specs.Session.{Machine, took, uncut}

module _ (m : Machine) where
  -- the plain receiver after some bytes, and the records that they added
  unfoldable pub receiver_after : m.Recv → List ℕ → m.Recv
  receiver_after r bs = (uncut m r (map took bs)).end

  unfoldable pub records_of : m.Recv → List ℕ → List ℕ
  records_of r bs = (uncut m r (map took bs)).records

  module _ (r : m.Recv) (room : ℕ) (input : List ℕ) where
    -- 5 stops the call before byte i: it is its frame's last, and less of the output is left than the longest record needs
    unfoldable pub stops_before : ℕ → Bool
    stops_before i = m.closes (receiver_after r (take i input)) (get_or input i 0) && ltb (room - length (records_of r (take i input))) m.longest

    -- the dead number after n bytes, 0 while the receiver is live
    unfoldable pub dead_after : ℕ → ℕ
    dead_after n = m.dead (receiver_after r (take n input))

    -- where the call ends, with its number: at the end of its input, before the byte that 5 stops it before, or after a judging byte
    pub data Ended (taken : ℕ) : ℕ → Type 0 where
      at_end : taken ≡ length input → (0 < taken → dead_after taken ≡ 0) → Ended taken 0
      short : taken < length input → (0 < taken → dead_after taken ≡ 0) → stops_before taken ≡ true → Ended taken 5
      refused : {n : ℕ} → 0 < taken → dead_after taken ≡ suc n → Ended taken (suc n)

    -- the number and the taken count of a call that passes the checks: no byte before it ends the call
    pub record Counted (number taken : ℕ) : Type 0 where
      pub within : (i : ℕ) → i < taken → i < length input
      pub goes_on : (i : ℕ) → i < taken → stops_before i ≡ false
      pub lives : (i : ℕ) → 0 < i → i < taken → dead_after i ≡ 0
      pub ended : Ended taken number

-- no other number and taken count are those of the same call
abbrev pub CountedOnce : Type 1
CountedOnce =
    (m : Machine) (r : m.Recv) (room : ℕ) (input : List ℕ) (number taken number' taken' : ℕ)
    → Counted m r room input number taken → Counted m r room input number' taken' → (number ≡ number') × (taken ≡ taken')
