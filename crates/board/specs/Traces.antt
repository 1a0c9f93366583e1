-- Worked examples of board commands: the number of each, and the board after a list of them. Proved in proofs/Traces.antt by computation.
-- These are definitions: they assume nothing.
use Rattle.std.specs.Prelude.{ℕ, ◌+◌, List, [], ◌∷◌, ◌++◌, map, ◌≡◌, true, false, length, replicate}
use Rattle.command_map.specs.CommandMap.{name-key, args_key}
use Rattle.board.specs.declared.Board.{Board}
use Rattle.board.specs.Commands.{set-name, label-name, off-name, coil-key, on-key, text-key, switch_item, change_of, change_number}
use Rattle.board.specs.Board.{first_coil, first_board, after}

-- a byte string of at most 23 bytes, as an item
abbrev bytes : List ℕ → List ℕ
bytes l = (0x40 + length l) ∷ l

-- an argument, by its key and the item of its value
abbrev argument : List ℕ → List ℕ → List ℕ
argument key item = bytes key ++ item

-- a command with n arguments, and one with no `args`
abbrev command : List ℕ → ℕ → List ℕ → List ℕ
command name n arguments = 0xa2 ∷ (bytes name-key ++ bytes name ++ bytes args_key ++ ((0xa0 + n) ∷ arguments))

abbrev bare : List ℕ → List ℕ
bare name = 0xa1 ∷ (bytes name-key ++ bytes name)

abbrev set-command : List ℕ → List ℕ → List ℕ
set-command coil on = command set-name 2 (argument coil-key coil ++ argument on-key on)

abbrev label-command : List ℕ → List ℕ → List ℕ
label-command coil text = command label-name 2 (argument coil-key coil ++ argument text-key text)

-- an integer of one byte
abbrev small : ℕ → List ℕ
small n = n ∷ []

pub record Trace : Type 0 where
  pub command : List ℕ
  pub number : ℕ

abbrev row : List ℕ → ℕ → Trace
row c n = record { command = c; number = n }

unfoldable pub traces : List Trace
traces =
    row (set-command (small 3) (switch_item true)) 0 ∷
    row (set-command (small 15) (switch_item false)) 0 ∷
    -- the arguments in the other order
    row (command set-name 2 (argument on-key (switch_item true) ++ argument coil-key (small 0))) 0 ∷
    -- 3 in heads of 2, 3, 5 and 9 bytes
    row (set-command (0x18 ∷ 3 ∷ []) (switch_item true)) 0 ∷
    row (set-command (0x19 ∷ 0 ∷ 3 ∷ []) (switch_item true)) 0 ∷
    row (set-command (0x1a ∷ 0 ∷ 0 ∷ 0 ∷ 3 ∷ []) (switch_item true)) 0 ∷
    row (set-command (0x1b ∷ 0 ∷ 0 ∷ 0 ∷ 0 ∷ 0 ∷ 0 ∷ 0 ∷ 3 ∷ []) (switch_item true)) 0 ∷
    -- 42: 16, -1, 2^63 and -2^64
    row (set-command (small 16) (switch_item true)) 42 ∷
    row (set-command (small 0x20) (switch_item true)) 42 ∷
    row (set-command (0x1b ∷ 0x80 ∷ 0 ∷ 0 ∷ 0 ∷ 0 ∷ 0 ∷ 0 ∷ 0 ∷ []) (switch_item true)) 42 ∷
    row (set-command (0x3b ∷ 0xff ∷ 0xff ∷ 0xff ∷ 0xff ∷ 0xff ∷ 0xff ∷ 0xff ∷ 0xff ∷ []) (switch_item true)) 42 ∷
    -- 41: `on` missing, `coil` missing, one more, none
    row (command set-name 1 (argument coil-key (small 3))) 41 ∷
    row (command set-name 2 (argument on-key (switch_item true) ++ argument text-key (bytes []))) 41 ∷
    row (command set-name 3 (argument coil-key (small 3) ++ argument on-key (switch_item true) ++ argument text-key (bytes []))) 41 ∷
    row (bare set-name) 41 ∷
    -- 41: `on` null, `coil` a byte string; before 42
    row (set-command (small 3) (small 0xf6)) 41 ∷
    row (set-command (bytes (small 3)) (switch_item true)) 41 ∷
    row (set-command (small 16) (small 0)) 41 ∷
    -- 41 before 42: coil 99 with `on` missing
    row (command set-name 1 (argument coil-key (0x18 ∷ 99 ∷ []))) 41 ∷
    -- labels of 0, 16 and 17 bytes, and of 1 with a head of 3; 42 before 43; `text` no byte string
    row (label-command (small 3) (bytes [])) 0 ∷
    row (label-command (small 3) (bytes (replicate 16 0x61))) 0 ∷
    row (label-command (small 3) (bytes (replicate 17 0x61))) 43 ∷
    row (label-command (small 3) (0x59 ∷ 0 ∷ 1 ∷ 0x61 ∷ [])) 0 ∷
    row (label-command (small 16) (bytes (replicate 17 0x61))) 42 ∷
    row (label-command (small 16) (small 0x80)) 41 ∷
    -- `off` without `args`, with none in it, with one
    row (bare off-name) 0 ∷
    row (command off-name 0 []) 0 ∷
    row (command off-name 1 (argument on-key (switch_item true))) 41 ∷
    -- an unknown command; what the check refuses: no bytes, an empty name, a key twice
    row (bare on-key) 40 ∷
    row (command on-key 1 (argument coil-key (small 3))) 40 ∷
    row [] 24 ∷
    row (bare []) 25 ∷
    row (command set-name 2 (argument coil-key (small 3) ++ argument coil-key (small 3))) 26 ∷
    []

-- coils 0 and 1 switched on, 0 labelled twice, a refused command; all off; coil 2 switched on
unfoldable pub session : List (List ℕ)
session =
    set-command (small 0) (switch_item true) ∷
    set-command (small 1) (switch_item true) ∷
    label-command (small 0) (bytes (0x61 ∷ 0x62 ∷ 0x63 ∷ [])) ∷
    label-command (small 0) (bytes (0x64 ∷ [])) ∷
    label-command (small 1) (bytes (replicate 17 0x61)) ∷
    bare off-name ∷
    set-command (small 2) (switch_item true) ∷
    []

-- coil 0 is labelled `d`, whose other places read 0; coil 2 is on
unfoldable pub ended : Board
ended = record {
  coils =
      record { on = false; length = 1; label = 0x64 ∷ replicate 15 0 } ∷
      first_coil ∷
      record { on = true; length = 0; label = replicate 16 0 } ∷
      replicate 13 first_coil;
}

-- the tables hold
abbrev pub TracesHold : Type 0
TracesHold = map (λ (t : Trace). change_number (change_of t.command)) traces ≡ map (λ (t : Trace). t.number) traces

abbrev pub SessionEnds : Type 0
SessionEnds = after first_board session ≡ ended
