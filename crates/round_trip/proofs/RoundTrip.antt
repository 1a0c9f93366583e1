-- The round trip: a message that is sent with 0 passed every refusal, so its numbers fit and its frames are read one after another, first
-- those of the command and then those of the data. A session whose bytes these are comes to the same by demand 3. Assumes nothing.
use Prim.Native.Nat.{ℕ, zero, suc, ◌≤◌, ◌<◌}
use mathlib.Core.Path.{◌≡◌, refl, sym, ap, ◌∙◌}
use mathlib.Core.Bool.{Bool, true, false, cond, ◌&&◌, ◌||◌, not}
use mathlib.Core.List.{List, [], ◌++◌, map, append-nil}
use native.Mathlib.Omega.{arith}
use lib.ListN.{length, take, drop, take-append-drop}
use lib.Dec.{ltb, eqb}
use borrow.Author.Tests.{eqb-true, eqb-false, ltb-false}
use Rattle.frame.specs.Limits.{max_command}
use Rattle.frame.specs.Frame.{Frame, is_even}
use Rattle.frame.specs.Records.{request_record}
use Rattle.buffer.proofs.WriteLaws.{take-front}
use Rattle.command.specs.Command.{checked, number_of}
use Rattle.requests.specs.declared.Phase.TheVariants.{Running}
use Rattle.rules.specs.Rules.{command_byte}
use Rattle.session.specs.Session.{took, fed, uncut}
use Rattle.channel.specs.declared.Channel.{Channel}
use Rattle.channel.specs.Receiver.{Receiver}
use Rattle.channel.specs.Channel.{channel}
use Rattle.demands.proofs.SeenLaws.{never}
use Rattle.demands.proofs.Demand3.{ok, demand3}
use Rattle.sender.specs.declared.Wishes.{Wishes}
use Rattle.sender.specs.Parts.{command_bytes}
use Rattle.sender.specs.Frames.{data_frame, frames, full_frames, command_frames, data_frames, message_frames, all_bytes, total}
use Rattle.buffer.specs.Answers.{Answer, refused}
use Rattle.sender.specs.Send.{max_size, wrote, frames_into, send_of}
use Rattle.sender.proofs.FrameLaws.{all-long, all_append}
use Rattle.round_trip.specs.RoundTrip.{Fits, Ready, data_records, joined, payloads, running, Arrives, written_bytes, RoundTrip}
use Rattle.round_trip.proofs.Frames.{rest-fits}
use Rattle.round_trip.proofs.WholeFrame.{Between}
use Rattle.round_trip.proofs.States.{slot_in, Sendable, Start, meets-first}
use Rattle.round_trip.proofs.ReadsTo.{ReadsTo, reads_then}
use Rattle.round_trip.proofs.CommandStep.{slot_after}
use Rattle.round_trip.proofs.Runs.{command_run, data_run}

-- ---- a message that is not refused

-- the tests of refusals that came to 0
passed : (a b c d e f g : Bool) (out : List ℕ) (w : Answer)
    → let x = cond (a || b) (refused 50 out) (cond (c || d) (refused 51 out) (cond (not e) (refused 52 out) (cond f (refused 53 out) (cond g (refused 54 out) w)))) in
    x.number ≡ 0 → (a ≡ false) × (b ≡ false) × (c ≡ false) × (d ≡ false) × (e ≡ true) × (f ≡ false) × (g ≡ false) × (x ≡ w)
passed true b c d e f g out w h = never 49 h
passed false true c d e f g out w h = never 49 h
passed false false true d e f g out w h = never 50 h
passed false false false true e f g out w h = never 50 h
passed false false false false false f g out w h = never 51 h
passed false false false false true true g out w h = never 52 h
passed false false false false true false true out w h = never 53 h
passed false false false false true false false out w h = (refl, refl, refl, refl, refl, refl, refl, refl)

-- what a message that is sent with 0 passed, and what was written
pub record NotRefused (how : Wishes) (command : List ℕ) (with-data : Bool) (bytes out : List ℕ) : Type 0 where
  pub sendable : Fits how → Sendable how
  pub check : number_of (checked command) ≡ 0
  pub long : length command ≤ max_command
  pub written : written_bytes (send_of how command with-data bytes out) ≡ all_bytes (message_frames how command with-data bytes)

pub not-refused : (how : Wishes) (command : List ℕ) (with-data : Bool) (bytes out : List ℕ) → (send_of how command with-data bytes out).number ≡ 0
    → NotRefused how command with-data bytes out
unfolding send_of frames_into
not-refused how command with-data bytes out h =
    let fs : List Frame = message_frames how command with-data bytes in
    let t =
    passed (is_even how.request) (is_even how.stream) (eqb how.size 0) (ltb max_size how.size) (eqb (number_of (checked command)) 0)
    (ltb max_command (length command)) (ltb (length out) (total fs)) out (wrote fs out) h in
    let room : length (all_bytes fs) ≤ length out = omega (arith, all-long fs, ltb-false (length out) (total fs) t.6) in
    record {
      sendable = λ fits. record {
        odd-request = t.0;
        odd-stream = t.1;
        request = fits.request;
        stream = fits.stream;
        some = positive how.size (eqb-false how.size 0 t.2);
        most = ltb-false max_size how.size t.3;
      };
      check = eqb-true (number_of (checked command)) 0 t.4;
      long = ltb-false max_command (length command) t.5;
      written = ap written_bytes t.7 ∙ rw (← all-long fs) (take-front out (all_bytes fs) room);
    }
  where
    positive : (n : ℕ) → (n ≡ 0 → ⊥) → 0 < n
    positive n k = omega (arith, k)

-- ---- the frames of a message

frames-join : (how : Wishes) (size : ℕ) (first : Bool) (n : ℕ) (bytes : List ℕ) → joined (payloads (frames (data_frame how) size first n bytes)) ≡ bytes
unfolding frames joined
frames-join how size first zero bytes = append-nil bytes
frames-join how size first (suc n) bytes =
    ap (λ (l : List ℕ). take size bytes ++ l) (frames-join how size false n (drop size bytes)) ∙ take-append-drop size bytes

data_joins : (how : Wishes) (bytes : List ℕ) → joined (payloads (data_frames how bytes)) ≡ bytes
unfolding data_frames
data_joins how bytes = frames-join how how.size true (full_frames how.size (length bytes)) bytes

-- ---- the reading

module _ (how : Wishes) (command bytes : List ℕ) (r : Receiver) (o : Sendable how) (y : Ready how r) (long : length command ≤ max_command) (good : number_of (checked command) ≡ 0) where
  s : Channel
  s = r.state

  start : Start how s
  unfolding s
  start = record {
    live = y.live;
    between = y.between;
    count = y.sound.slots;
    fit = (ok r y.sound).slots;
    inactive = y.inactive;
    free = y.free;
    streams = y.streams;
    stream = y.stream;
  }

  between : Between r
  between = record { live = y.live; pending = y.between; work = (ok r y.sound).work }

  reads-command : (with-data : Bool)
      → ReadsTo how s r (all_bytes (command_frames how with-data command)) (request_record 1 how.request (command_byte with-data command) command) (slot_after how with-data true 0) (not (not with-data && how.end)) []
  unfolding command_frames s
  reads-command with-data =
      command_run how o s start with-data (full_frames how.size (length command)) r between true [] command command (meets-first how r start with-data)
      (rest-fits how.size (length command) o.some) refl long good

  abbrev records : Bool → List ℕ
  records with-data = request_record 1 how.request (command_byte with-data command) command ++ cond with-data (data_records how.request (payloads (data_frames how bytes))) []

  reads_message : (with-data : Bool) → ReadsTo how s r (all_bytes (message_frames how command with-data bytes)) (records with-data) (slot_in how Running with-data 0) (not how.end) []
  unfolding message_frames data_frames
  reads_message false = rw (append-nil (command_frames how false command), append-nil (request_record 1 how.request (command_byte false command) command)) (reads-command false)
  reads_message true =
      let c = reads-command true in
      rw (all_append (command_frames how true command) (data_frames how bytes))
      (reads_then how s r _ _ _ _ _ _ _ _ _ _ c
      (data_run how o s start (full_frames how.size (length bytes)) c.to c.between true bytes c.state (rest-fits how.size (length bytes) o.some)))

  pub arrives : (with-data : Bool) → Arrives how command with-data bytes r.state (uncut channel r (map took (all_bytes (message_frames how command with-data bytes))))
  unfolding s uncut fed running
  arrives with-data =
      let c = reads_message with-data in
      let message : List ℕ = all_bytes (message_frames how command with-data bytes) in
      let e : uncut channel r (map took message) ≡ fed (records with-data) (uncut channel c.to []) = ap (uncut channel r) (sym (append-nil (map took message))) ∙ c.reads [] in
      rw e (record { records = append-nil (records with-data); joins = data_joins how bytes; answers = refl; state = c.state })

pub round_trip : RoundTrip
round_trip how name pairs count with-data bytes out r fits y h =
    let command : List ℕ = command_bytes name pairs count in
    let a = not-refused how command with-data bytes out h in
    let u : Arrives how command with-data bytes r.state (uncut channel r (map took (all_bytes (message_frames how command with-data bytes)))) =
    arrives how command bytes r (a.sendable fits) y a.long a.check with-data in
    rw a.written (record { uncut = u; session = λ cs e. rw ((demand3 r y.sound cs).outcome, e) u })
