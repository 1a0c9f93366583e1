-- Further commands, beside the table of T1 to T12 in the crate demands: for each command and argument key, the check's number, the
-- number of arguments, and the number and the value of the argument as an integer; and commands with their marks (E5). proofs/Traces.antt
-- proves both tables.
-- These are definitions: they assume nothing.
use Rattle.std.specs.Prelude.{ℕ, ◌-◌, ◌^◌, ◌≡◌, List, [], ◌∷◌, map, ℤ, pos}
use Rattle.command.specs.Command.{checked, number_of}
use Rattle.command.specs.Lookup.{number_number, number_value, count_of, mark_of, integer_at}

pub record Answer : Type 0 where
  pub checked : ℕ
  pub count : ℕ
  pub number : ℕ
  pub value : ℤ

pub record Trace : Type 0 where
  pub command : List ℕ
  pub key : List ℕ
  pub answer : Answer

-- the name `set`, and these bytes behind it
abbrev with_name : List ℕ → List ℕ
with_name l = 0x44 ∷ 0x6e ∷ 0x61 ∷ 0x6d ∷ 0x65 ∷ 0x43 ∷ 0x73 ∷ 0x65 ∷ 0x74 ∷ l

-- `args`, and these bytes for its value and what follows
abbrev then_args : List ℕ → List ℕ
then_args l = 0x44 ∷ 0x61 ∷ 0x72 ∷ 0x67 ∷ 0x73 ∷ l

-- a command with the name `set` and these bytes for the value of `args`
abbrev with_args : List ℕ → List ℕ
with_args l = 0xa2 ∷ with_name (then_args l)

-- one argument, `x`, with these bytes for its value
abbrev with_x : List ℕ → List ℕ
with_x l = with_args (0xa1 ∷ 0x41 ∷ 0x78 ∷ l)

abbrev x : List ℕ
x = 0x78 ∷ []

abbrev row : List ℕ → ℕ → ℕ → ℕ → ℤ → Trace
row c n k m z = record { command = c; key = x; answer = record { checked = n; count = k; number = m; value = z } }

unfoldable pub traces : List Trace
traces =
    -- T1's command: no argument
    row (with_args (0xa0 ∷ [])) 0 0 6 (pos 0) ∷
    -- E1, `args` missing: the name alone, and the name with `redirect`; the name twice
    row (0xa1 ∷ with_name []) 0 0 6 (pos 0) ∷
    row (0xa2 ∷ with_name (0x48 ∷ 0x72 ∷ 0x65 ∷ 0x64 ∷ 0x69 ∷ 0x72 ∷ 0x65 ∷ 0x63 ∷ 0x74 ∷ 0xa0 ∷ [])) 0 0 6 (pos 0) ∷
    row (0xa2 ∷ with_name (with_name [])) 26 0 26 (pos 0) ∷
    -- E1, `name` is still needed: `args` alone, and neither; `args` twice
    row (0xa1 ∷ then_args (0xa0 ∷ [])) 25 0 25 (pos 0) ∷
    row (0xa0 ∷ []) 25 0 25 (pos 0) ∷
    row (0xa3 ∷ with_name (then_args (0xa0 ∷ then_args (0xa0 ∷ [])))) 26 0 26 (pos 0) ∷
    -- 2^63-1 and 2^63
    row (with_x (0x1b ∷ 0x7f ∷ 0xff ∷ 0xff ∷ 0xff ∷ 0xff ∷ 0xff ∷ 0xff ∷ 0xff ∷ [])) 0 1 0 (pos (2 ^ 63 - 1)) ∷
    row (with_x (0x1b ∷ 0x80 ∷ 0 ∷ 0 ∷ 0 ∷ 0 ∷ 0 ∷ 0 ∷ 0 ∷ [])) 0 1 8 (pos 0) ∷
    -- a key twice, the second with a wider head
    row (with_args (0xa2 ∷ 0x41 ∷ 0x78 ∷ 0 ∷ 0x58 ∷ 1 ∷ 0x78 ∷ 0 ∷ [])) 26 0 26 (pos 0) ∷
    -- a key of `args` that is no byte string; an `args` that is an array; an item that is no map
    row (with_args (0xa1 ∷ 0 ∷ 0 ∷ [])) 25 0 25 (pos 0) ∷
    row (with_args (0x80 ∷ [])) 25 0 25 (pos 0) ∷
    row (0 ∷ []) 25 0 25 (pos 0) ∷
    -- a value missing; an array that claims 2^64-1 elements
    row (with_args (0xa1 ∷ 0x41 ∷ 0x78 ∷ [])) 24 0 24 (pos 0) ∷
    row (with_x (0x9b ∷ 0xff ∷ 0xff ∷ 0xff ∷ 0xff ∷ 0xff ∷ 0xff ∷ 0xff ∷ 0xff ∷ 0 ∷ [])) 24 0 24 (pos 0) ∷
    -- a set, its members twice
    row (with_x (0xd9 ∷ 0x01 ∷ 0x02 ∷ 0x82 ∷ 0x01 ∷ 0x01 ∷ [])) 0 1 7 (pos 0) ∷
    []

-- what the definitions answer
unfoldable pub answer_of : Trace → Answer
answer_of t = record {
  checked = number_of (checked t.command);
  count = count_of t.command;
  number = number_number (integer_at t.command t.key);
  value = number_value (integer_at t.command t.key);
}

-- the table holds
abbrev pub TracesHold : Type 0
TracesHold = map answer_of traces ≡ map (λ (t : Trace). t.answer) traces

-- ---- E5: a command, and its mark

pub record Marked : Type 0 where
  pub command : List ℕ
  pub mark : ℕ

abbrev marked : List ℕ → ℕ → Marked
marked c m = record { command = c; mark = m }

-- `redirect`, and these bytes for its value
abbrev then_redirect : List ℕ → List ℕ
then_redirect l = 0x48 ∷ 0x72 ∷ 0x65 ∷ 0x64 ∷ 0x69 ∷ 0x72 ∷ 0x65 ∷ 0x63 ∷ 0x74 ∷ l

unfoldable pub marks : List Marked
marks =
    -- the widths: the largest number of each in the next one, and the smallest that needs it
    marked (with_x (0x17 ∷ [])) 0 ∷
    marked (with_x (0x18 ∷ 0x17 ∷ [])) 1 ∷
    marked (with_x (0x18 ∷ 0x18 ∷ [])) 0 ∷
    marked (with_x (0x19 ∷ 0x00 ∷ 0xff ∷ [])) 1 ∷
    marked (with_x (0x19 ∷ 0x01 ∷ 0x00 ∷ [])) 0 ∷
    marked (with_x (0x1a ∷ 0x00 ∷ 0x00 ∷ 0xff ∷ 0xff ∷ [])) 1 ∷
    marked (with_x (0x1a ∷ 0x00 ∷ 0x01 ∷ 0x00 ∷ 0x00 ∷ [])) 0 ∷
    marked (with_x (0x1b ∷ 0 ∷ 0 ∷ 0 ∷ 0 ∷ 0xff ∷ 0xff ∷ 0xff ∷ 0xff ∷ [])) 1 ∷
    marked (with_x (0x1b ∷ 0 ∷ 0 ∷ 0 ∷ 1 ∷ 0 ∷ 0 ∷ 0 ∷ 0 ∷ [])) 0 ∷
    -- the places: the outer map's head; the key of the name, and the name; the key of `args`, and its head
    marked (with_args (0xa0 ∷ [])) 0 ∷
    marked (0xb8 ∷ 2 ∷ with_name (then_args (0xa0 ∷ []))) 1 ∷
    marked (0xa1 ∷ 0x58 ∷ 4 ∷ 0x6e ∷ 0x61 ∷ 0x6d ∷ 0x65 ∷ 0x43 ∷ 0x73 ∷ 0x65 ∷ 0x74 ∷ []) 1 ∷
    marked (0xa1 ∷ 0x44 ∷ 0x6e ∷ 0x61 ∷ 0x6d ∷ 0x65 ∷ 0x58 ∷ 3 ∷ 0x73 ∷ 0x65 ∷ 0x74 ∷ []) 1 ∷
    marked (0xa2 ∷ with_name (0x58 ∷ 4 ∷ 0x61 ∷ 0x72 ∷ 0x67 ∷ 0x73 ∷ 0xa0 ∷ [])) 1 ∷
    marked (with_args (0xb8 ∷ 0 ∷ [])) 1 ∷
    -- an argument's key, and its value: a negative integer, a byte string, an array, a map, and a set, by its tag and by its array
    marked (with_args (0xa1 ∷ 0x58 ∷ 1 ∷ 0x78 ∷ 0 ∷ [])) 1 ∷
    marked (with_x (0x38 ∷ 0x17 ∷ [])) 1 ∷
    marked (with_x (0x58 ∷ 0 ∷ [])) 1 ∷
    marked (with_x (0x98 ∷ 0 ∷ [])) 1 ∷
    marked (with_x (0xb8 ∷ 0 ∷ [])) 1 ∷
    marked (with_x (0xd9 ∷ 0x01 ∷ 0x02 ∷ 0x80 ∷ [])) 0 ∷
    marked (with_x (0xda ∷ 0x00 ∷ 0x00 ∷ 0x01 ∷ 0x02 ∷ 0x80 ∷ [])) 1 ∷
    marked (with_x (0xd9 ∷ 0x01 ∷ 0x02 ∷ 0x98 ∷ 0 ∷ [])) 1 ∷
    -- deeper: the last element of an array, a key and a value of a map, a member of a set
    marked (with_x (0x82 ∷ 0 ∷ 0x18 ∷ 0 ∷ [])) 1 ∷
    marked (with_x (0xa1 ∷ 0x18 ∷ 0 ∷ 0 ∷ [])) 1 ∷
    marked (with_x (0xa1 ∷ 0 ∷ 0x18 ∷ 0 ∷ [])) 1 ∷
    marked (with_x (0xd9 ∷ 0x01 ∷ 0x02 ∷ 0x82 ∷ 0 ∷ 0x18 ∷ 0 ∷ [])) 1 ∷
    -- the key of `redirect`, its head, and a value in it
    marked (0xa2 ∷ with_name (then_redirect (0xa0 ∷ []))) 0 ∷
    marked (0xa2 ∷ with_name (0x58 ∷ 8 ∷ 0x72 ∷ 0x65 ∷ 0x64 ∷ 0x69 ∷ 0x72 ∷ 0x65 ∷ 0x63 ∷ 0x74 ∷ 0xa0 ∷ [])) 1 ∷
    marked (0xa2 ∷ with_name (then_redirect (0xb8 ∷ 0 ∷ []))) 1 ∷
    marked (0xa2 ∷ with_name (then_redirect (0xa1 ∷ 0 ∷ 0x18 ∷ 0 ∷ []))) 1 ∷
    -- a string's content is skipped; false, true and null are shortest
    marked (with_x (0x42 ∷ 0x18 ∷ 0x00 ∷ [])) 0 ∷
    marked (with_x (0x83 ∷ 0xf4 ∷ 0xf5 ∷ 0xf6 ∷ [])) 0 ∷
    -- refused, with 24, 25 and 26
    marked (with_x (0x18 ∷ 0x17 ∷ 0 ∷ [])) 0 ∷
    marked (0x18 ∷ 0x17 ∷ []) 0 ∷
    marked (with_args (0xa2 ∷ 0x41 ∷ 0x78 ∷ 0 ∷ 0x58 ∷ 1 ∷ 0x78 ∷ 0 ∷ [])) 0 ∷
    []

abbrev pub MarksHold : Type 0
MarksHold = map (λ (t : Marked). mark_of t.command) marks ≡ map (λ (t : Marked). t.mark) marks
