-- The frames of a command, and those of data, read one after another: after each but the last the next finds what it needs, so the last
-- gives the command's record, and each data frame its own. Assumes nothing.
use Prim.Native.Nat.{ℕ, zero, suc, ◌+◌, ◌*◌, ◌≤◌}
use mathlib.Core.Path.{◌≡◌, refl, ap, ◌∙◌}
use mathlib.Core.Bool.{Bool, true, false, ◌&&◌, not, false≢true}
use mathlib.Core.List.{List, [], ◌∷◌, ◌++◌, append-nil, append_assoc}
use native.Mathlib.Omega.{arith}
use lib.ListN.{length, take, drop, length-append, length-take, length-drop, take-append-drop}
use Rattle.frame.specs.Limits.{max_payload, max_command}
use Rattle.frame.specs.Records.{bit, request_record}
use Rattle.command.specs.Command.{checked, number_of}
use Rattle.requests.specs.declared.Phase.TheVariants.{Waiting}
use Rattle.rules.specs.Rules.{command_byte}
use Rattle.channel.specs.declared.Channel.{Channel}
use Rattle.channel.specs.Receiver.{Receiver}
use Rattle.sender.specs.declared.Wishes.{Wishes}
use Rattle.sender.specs.Frames.{command_frame, data_frame, frames, all_bytes}
use Rattle.round_trip.specs.RoundTrip.{data_records, payloads}
use Rattle.round_trip.proofs.WholeFrame.{Between}
use Rattle.round_trip.proofs.States.{slot_in, state_with, Sendable, Start, Meets, meets-later}
use Rattle.round_trip.proofs.ReadsTo.{ReadsTo, reads_then}
use Rattle.round_trip.proofs.CommandStep.{slot_after, command-reads}
use Rattle.round_trip.proofs.DataStep.{slot_after_data, data_reads}

module _ (how : Wishes) (o : Sendable how) (s : Channel) (y : Start how s) where
  -- ---- n full command frames and the last

  module _ (with-data : Bool) where
    abbrev CommandRun : ℕ → Type 0
    CommandRun n =
        (r : Receiver) → Between r → (first : Bool) (bytes rest whole : List ℕ) → Meets how s with-data first bytes r
        → length rest ≤ n * how.size + how.size → bytes ++ rest ≡ whole → length whole ≤ max_command → number_of (checked whole) ≡ 0
        → ReadsTo how s r (all_bytes (frames (command_frame how with-data) how.size first n rest)) (request_record 1 how.request (command_byte with-data whole) whole)
        (slot_after how with-data true 0) (not (not with-data && how.end)) []

    command-last : CommandRun zero
    unfolding frames all_bytes
    command-last r b first bytes rest whole m l e room good =
        rw (append-nil, ← e) (command-reads how o s y with-data r b first true bytes rest m (omega (arith, o.most)) (rw e room) (λ h. rw e good))

    command-more : (n : ℕ) → CommandRun n → CommandRun (suc n)
    unfolding frames all_bytes
    command-more n again r b first bytes rest whole m l e room good =
        let now : List ℕ = take how.size rest in
        let later : List ℕ = drop how.size rest in
        let joins : (bytes ++ now) ++ later ≡ whole =
        append_assoc bytes now later ∙ ap (λ (k : List ℕ). bytes ++ k) (take-append-drop how.size rest) ∙ e in
        let short : length now ≤ max_payload = omega (arith, o.most, length-take how.size rest) in
        let fits : length (bytes ++ now) ≤ max_command = omega (arith, room, ap length joins, length-append (bytes ++ now) later) in
        let c = command-reads how o s y with-data r b first false bytes now m short fits (λ h. absurd (false≢true h)) in
        reads_then how s r _ _ [] (request_record 1 how.request (command_byte with-data whole) whole) _ _ _ _ _ _ c
        (again c.to c.between false (bytes ++ now) later whole (meets-later how o s y c.to with-data (bytes ++ now) c.state c.part)
        (omega (arith, length-drop how.size rest)) joins room good)

    pub command_run : (n : ℕ) → CommandRun n
    command_run zero = command-last
    command_run (suc n) = command-more n (command_run n)

  -- ---- n full data frames and the last

  -- the record of a data frame that is not the last
  more-records : (p : List ℕ) (first : Bool) (n : ℕ) (rest : List ℕ)
      → data_records how.request (p ∷ payloads (frames (data_frame how) how.size first n rest))
      ≡ request_record 2 how.request 0 p ++ data_records how.request (payloads (frames (data_frame how) how.size first n rest))
  unfolding frames data_records
  more-records p first zero rest = refl
  more-records p first (suc n) rest = refl

  abbrev DataRun : ℕ → Type 0
  DataRun n =
      (r : Receiver) → Between r → (first : Bool) (rest : List ℕ) → r.state ≡ state_with how s (slot_in how Waiting true 0) true
      → length rest ≤ n * how.size + how.size
      → ReadsTo how s r (all_bytes (frames (data_frame how) how.size first n rest)) (data_records how.request (payloads (frames (data_frame how) how.size first n rest)))
      (slot_after_data how true) (not how.end) []

  data_last : DataRun zero
  unfolding frames all_bytes data_records bit
  data_last r b first rest waits l = rw append-nil (data_reads how o s y r b first true rest waits (omega (arith, o.most)))

  data_more : (n : ℕ) → DataRun n → DataRun (suc n)
  unfolding frames all_bytes bit
  data_more n again r b first rest waits l =
      let now : List ℕ = take how.size rest in
      let c = data_reads how o s y r b first false now waits (omega (arith, o.most, length-take how.size rest)) in
      rw (more-records now false n (drop how.size rest))
      (reads_then how s r _ _ _ _ _ _ _ _ _ _ c (again c.to c.between false (drop how.size rest) c.state (omega (arith, length-drop how.size rest))))

  pub data_run : (n : ℕ) → DataRun n
  data_run zero = data_last
  data_run (suc n) = data_more n (data_run n)
