-- The whole way: demand 3 makes a session its uncut reading, the round trip makes that the command sent, and the board applies it.
-- Assumes nothing.
use Prim.Native.Nat.{ℕ, zero, suc, ◌+◌, ◌<◌, ◌≤◌}
use mathlib.Core.Path.{◌≡◌, refl, ap, ◌∙◌}
use mathlib.Core.Bool.{Bool, true, false, cond}
use mathlib.Core.List.{List, [], ◌∷◌, map, head-eq_of_cons-eq, tail-eq_of_cons-eq}
use native.Mathlib.Omega.{arith}
use lib.Dec.{lit<}
use lib.IntN.{pos}
use lib.ListN.{length}
use Rattle.keys.specs.Keys.{part, equal}
use Rattle.cbor.specs.Cbor.{width, shortest, big_endian, head_value, head_of, head_at, bytes_at, tagged, item_at, value}
use Rattle.frame.specs.Limits.{max_payload}
use Rattle.cbor.specs.Heads.{big_bytes, head_bytes, string_bytes}
use Rattle.entries.specs.Entries.{entry_at, entries, find}
use Rattle.std.specs.Prelude.{Result, Ok, ℤ}
use Rattle.command.specs.declared.LookupError.{LookupError}
use Rattle.command.specs.Lookup.{part_at, integer_in}
use Rattle.rules.specs.Rules.{command_byte}
use Rattle.session.specs.Session.{Call, Outcome, took, session, events}
use Rattle.channel.specs.Receiver.{Receiver}
use Rattle.channel.specs.Channel.{channel}
use Rattle.demands.proofs.Demand3.{demand3}
use Rattle.sender.specs.declared.Wishes.{Wishes}
use Rattle.sender.specs.Parts.{command_bytes}
use Rattle.sender.specs.Frames.{data_frames}
use Rattle.sender.specs.Send.{max_size, send_of}
use Rattle.round_trip.specs.RoundTrip.{Fits, Ready, data_records, payloads, written_bytes}
use Rattle.round_trip.specs.ReadBack.{place_in}
use Rattle.round_trip.proofs.Frames.{message_framed}
use Rattle.round_trip.proofs.RoundTrip.{not-refused, round_trip}
use Rattle.round_trip.proofs.ReadBack.{read_back}
use Rattle.board.specs.declared.Board.{Board}
use Rattle.board.specs.Commands.{set-name, coil-key, on-key, switch_item}
use Rattle.board.specs.Board.{applied, after}
use Rattle.board.specs.Laws.{AsksSet}
use Rattle.board.proofs.BoardLaws.{refused-keeps, accepted_does, set_does}
use Rattle.board_session.specs.BoardSession.{commands_in, board_after, BoardUncut, SentApplied, PairsAsk, SetSwitches, set_pairs, PlainPairs}
use Rattle.board_session.proofs.Records.{none, data_none, filled-short, one-command}

-- ---- however the bytes are cut

pub board-uncut : BoardUncut
board-uncut b r sound cs = ap (λ (o : Outcome Receiver). board_after b o.records) (demand3 r sound cs).outcome

-- ---- what was sent is applied

module _ (how : Wishes) (bytes : List ℕ) (some : 0 < how.size) (most : how.size ≤ max_size) where
  none-behind : (with-data : Bool) → commands_in (cond with-data (data_records how.request (payloads (data_frames how bytes))) []) ≡ []
  none-behind true =
      data_none how.request (payloads (data_frames how bytes)) (filled-short how.size (length bytes) (data_frames how bytes) (omega arith) (message_framed how [] true bytes some).data_filled)
  none-behind false = none

once : (b : Board) (joined command : List ℕ) → commands_in joined ≡ command ∷ [] → board_after b joined ≡ (applied command b).board
unfolding board_after after
once b joined command e = rw e

sent_once : (how : Wishes) (name pairs : List ℕ) (count : ℕ) (with-data : Bool) (bytes out : List ℕ) (r : Receiver) (b : Board) → Fits how → Ready how r
    → (send_of how (command_bytes name pairs count) with-data bytes out).number ≡ 0 → (cs : List Call)
    → events channel r cs ≡ map took (written_bytes (send_of how (command_bytes name pairs count) with-data bytes out))
    → board_after b (session channel r cs).records ≡ (applied (command_bytes name pairs count) b).board
sent_once how name pairs count with-data bytes out r b fits ready h cs e =
    let command : List ℕ = command_bytes name pairs count in
    let n = not-refused how command with-data bytes out h in
    let o = n.sendable fits in
    let a = (round_trip how name pairs count with-data bytes out r fits ready h).session cs e in
    let short : length command ≤ max_payload = omega (arith, n.long) in
    once b (session channel r cs).records command
    (rw a.records (one-command how.request (command_byte with-data command) command _ short (none-behind how bytes o.some o.most with-data)))

pub sent_applied : SentApplied
sent_applied how name pairs count with-data bytes out r b fits ready h cs e =
    let command : List ℕ = command_bytes name pairs count in
    let once = sent_once how name pairs count with-data bytes out r b fits ready h cs e in
    record {
      is = once;
      done = λ sixteen z. rw once (accepted_does command b sixteen z);
      kept = λ n. once ∙ refused-keeps command b n;
    }

-- ---- a `set`

module _ (how : Wishes) (pairs : List ℕ) (i : ℕ) (v with-data : Bool) (bytes out : List ℕ) where
  abbrev set-command : List ℕ
  set-command = command_bytes set-name pairs 2

  asks : PairsAsk pairs i v → (send_of how set-command with-data bytes out).number ≡ 0 → AsksSet set-command i v
  asks p h =
      let n = not-refused how set-command with-data bytes out h in
      let k = read_back set-name pairs 2 (lit< tt) (lit< tt) n.check in
      record {
        named = record { number = n.check; name = k.named; count = k.counted };
        coil = record { coil = k.integer coil-key ∙ p.coil; below = p.below };
        on = k.value on-key ∙ p.on;
      }

pub set-switches : SetSwitches
set-switches how pairs i v with-data bytes out r b fits ready sixteen p h cs e =
    rw (sent_once how set-name pairs 2 with-data bytes out r b fits ready h cs e)
    (set_does (command_bytes set-name pairs 2) b i v sixteen (asks how pairs i v with-data bytes out p h))

-- ---- the pairs with shortest heads: antt computes each of the sixteen

-- what the lookups give of the pairs
record Said : Type 0 where
  coil : Result ℤ LookupError
  on : List ℕ

abbrev said : ℕ → Bool → Said
said i v = record { coil = integer_in (set_pairs i v) (place_in (set_pairs i v) 2 coil-key); on = part_at (set_pairs i v) (place_in (set_pairs i v) 2 on-key) }

abbrev meant : ℕ → Bool → Said
meant i v = record { coil = Ok (pos i); on = switch_item v }

-- the numbers from k on, n of them
abbrev from : ℕ → ℕ → List ℕ
from k zero = []
from k (suc n) = k ∷ from (suc k) n

each-said : (v : Bool) → map (λ (i : ℕ). said i v) (from 0 16) ≡ map (λ (i : ℕ). meant i v) (from 0 16)
unfolding head_bytes string_bytes shortest big_bytes entries entry_at find equal part value item_at tagged bytes_at head_at head_of head_value big_endian width
each-said true = refl
each-said false = refl

-- two functions that agree in a list of those numbers agree in each
agree : {A : Type 0} (f g : ℕ → A) (k n i : ℕ) → map f (from k n) ≡ map g (from k n) → i < n → f (k + i) ≡ g (k + i)
agree f g k zero i e h = absurd (omega arith)
agree f g k (suc n) zero e h =
    let z : k + 0 ≡ k = omega arith in
    rw z (head-eq_of_cons-eq e)
agree f g k (suc n) (suc i) e h =
    let z : k + suc i ≡ suc k + i = omega arith in
    rw z (agree f g (suc k) n i (tail-eq_of_cons-eq e) (omega arith))

pub plain_pairs : PlainPairs
plain_pairs i v h =
    let z : 0 + i ≡ i = omega arith in
    let e : said i v ≡ meant i v = rw z at (agree (λ (j : ℕ). said j v) (λ (j : ℕ). meant j v) 0 16 i (each-said v) h) in
    record { coil = ap (λ (x : Said). x.coil) e; below = h; on = ap (λ (x : Said). x.on) e }
