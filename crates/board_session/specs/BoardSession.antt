-- The whole way from a laptop to a coil: a command is sent (E2), its bytes are fed in any pieces, and the board applies each command of the
-- records (E3). What the laptop asked for is what the coil does. Each claim is proved under its name in proofs/BoardSession.antt.
-- These are definitions: they assume nothing.
use Rattle.std.specs.Prelude.{ℕ, ◌+◌, ◌*◌, ◌<◌, ◌≡◌, Ok, Bool, cond, List, [], ◌∷◌, ◌++◌, map, eqb, pos, length, drop}
use Rattle.cbor.specs.Heads.{head_bytes, string_bytes}
use Rattle.command.specs.Lookup.{part_at, integer_in}
use Rattle.logs.specs.Logs.{Stored, records}
use Rattle.session.specs.Session.{Call, took, uncut, session, events}
use Rattle.channel.specs.Receiver.{Receiver}
use Rattle.channel.specs.Channel.{channel}
use Rattle.demands.specs.Demands.{Sound}
use Rattle.sender.specs.declared.Wishes.{Wishes}
use Rattle.sender.specs.Parts.{command_bytes}
use Rattle.sender.specs.Send.{send_of}
use Rattle.round_trip.specs.RoundTrip.{Fits, Ready, written_bytes}
use Rattle.round_trip.specs.ReadBack.{place_in}
use Rattle.board.specs.declared.Board.{Board}
use Rattle.board.specs.Commands.{set-name, coil-key, on-key, switch_item, coil_count}
use Rattle.board.specs.Board.{applied, after}
use Rattle.board.specs.Laws.{Switched, Done}

-- ---- the board after a session's records

-- the command of a kind 1 record
abbrev pub with_command : ℕ → List ℕ → List (List ℕ) → List (List ℕ)
with_command kind command rest = cond (eqb kind 1) (command ∷ rest) rest

-- the commands of records, in order; a body is the request (2), a byte (1) and the command or data
unfoldable pub commands_of : List Stored → List (List ℕ)
commands_of [] = []
commands_of (r ∷ rs) = with_command (r.low + 256 * r.high) (drop 3 r.body) (commands_of rs)

-- those of joined records; one that is not whole ends them
abbrev pub commands_in : List ℕ → List (List ℕ)
commands_in joined = commands_of (records 4 joined)

unfoldable pub board_after : Board → List ℕ → Board
board_after b joined = after b (commands_in joined)

-- ---- the claims

-- however the bytes are cut into calls, the board is that of the uncut reading
abbrev pub BoardUncut : Type 0
BoardUncut =
    (b : Board) (r : Receiver) → Sound r → (cs : List Call)
    → board_after b (session channel r cs).records ≡ board_after b (uncut channel r (events channel r cs)).records

-- A board after a session that brought it this command: it is what applying the command once comes to. So an accepted command is done, and
-- nothing else; a refused one leaves the board as it was.
pub record AppliedOnce (command : List ℕ) (b next : Board) : Type 0 where
  pub is : next ≡ (applied command b).board
  pub done : length b.coils ≡ coil_count → (applied command b).number ≡ 0 → Done command b next
  pub kept : ((applied command b).number ≡ 0 → ⊥) → next ≡ b

-- every command that is sent with 0, in every session whose taken bytes are those written
abbrev pub SentApplied : Type 0
SentApplied =
    (how : Wishes) (name pairs : List ℕ) (count : ℕ) (with-data : Bool) (bytes out : List ℕ) (r : Receiver) (b : Board) → Fits how → Ready how r
    → let command = command_bytes name pairs count in let a = send_of how command with-data bytes out in
    a.number ≡ 0 → (cs : List Call) → events channel r cs ≡ map took (written_bytes a)
    → AppliedOnce command b (board_after b (session channel r cs).records)

-- two pairs, in any order and with heads of any width, that ask for coil i to be switched to v
pub record PairsAsk (pairs : List ℕ) (i : ℕ) (v : Bool) : Type 0 where
  pub coil : integer_in pairs (place_in pairs 2 coil-key) ≡ Ok (pos i)
  pub below : i < coil_count
  pub on : part_at pairs (place_in pairs 2 on-key) ≡ switch_item v

-- the coil that the laptop asked for is switched as it asked, and nothing else is changed
abbrev pub SetSwitches : Type 0
SetSwitches =
    (how : Wishes) (pairs : List ℕ) (i : ℕ) (v with-data : Bool) (bytes out : List ℕ) (r : Receiver) (b : Board) → Fits how → Ready how r → length b.coils ≡ coil_count
    → PairsAsk pairs i v → let a = send_of how (command_bytes set-name pairs 2) with-data bytes out in
    a.number ≡ 0 → (cs : List Call) → events channel r cs ≡ map took (written_bytes a)
    → Switched b (board_after b (session channel r cs).records) i v

-- the pairs with shortest heads ask so, for every coil
abbrev pub set_pairs : ℕ → Bool → List ℕ
set_pairs i v = string_bytes coil-key ++ (head_bytes 0 i ++ (string_bytes on-key ++ switch_item v))

abbrev pub PlainPairs : Type 0
PlainPairs = (i : ℕ) (v : Bool) → i < coil_count → PairsAsk (set_pairs i v) i v
