-- What the calls for C and Rust answer, with every lent byte after them, by the channel's and the commands' own definitions: a state's bytes
-- are decoded, and what the call leaves is encoded. These are definitions: they assume nothing.
use Rattle.std.specs.Prelude.{ℕ, ◌-◌, cond, List, length, eqb, ltb, ℤ, Result, Ok, Err}
use Rattle.std.proofs.Math.Option.{Option, some, none}
use Rattle.frame.specs.Limits.{work_area}
use Rattle.session.specs.Session.{Feed, Reply}
use Rattle.channel.specs.declared.Channel.{Channel}
use Rattle.channel.specs.Receiver.{Receiver, fresh_state}
use Rattle.channel.specs.Channel.{feed_of, finish_of}
use Rattle.command.specs.declared.Place.{Place}
use Rattle.command.specs.declared.LookupError.{LookupError}
use Rattle.command.specs.Command.{checked, if_command}
use Rattle.command.specs.Lookup.{error_number, argument_at, integer_at, number_number, number_value}
use Rattle.layout.specs.State.{state_length, encode, decode}
use Rattle.status.specs.Row.{ActiveCount, active_count, active_of, Shown, shown, shown_in_bytes}

-- ---- a value in lent bytes

-- f of the decoded value; z where the bytes are none
abbrev pub if_value : {A B : Type 0} → Option A → (A → B) → B → B
if_value (some x) f z = f x
if_value none f z = z

-- a number, and the lent bytes
pub record Kept : Type 0 where
  pub number : ℕ
  pub bytes : List ℕ

abbrev pub kept : ℕ → List ℕ → Kept
kept n b = record { number = n; bytes = b }

-- ---- the channel

-- 3 where the bytes lent have another length
unfoldable pub fresh_answer : List ℕ → Kept
fresh_answer b = cond (eqb (length b) state_length) (kept 0 (encode fresh_state)) (kept 3 b)

abbrev pub replied : Reply Channel → Kept
replied a = kept a.number (encode a.next)

unfoldable pub finish_answer : List ℕ → ℕ → Kept
finish_answer b id = if_value (decode b) (λ s. replied (finish_of s id)) (kept 3 b)

-- a number, the two counts, and every lent byte
pub record Answer : Type 0 where
  pub number : ℕ
  pub taken : ℕ
  pub written : ℕ
  pub state : List ℕ
  pub work : List ℕ
  pub output : List ℕ

abbrev pub answer : ℕ → ℕ → ℕ → List ℕ → List ℕ → List ℕ → Answer
answer n taken written b work out = record { number = n; taken = taken; written = written; state = b; work = work; output = out }

abbrev pub fed_answer : Feed Receiver → Answer
fed_answer a = answer a.number a.taken a.written (encode a.next.state) a.next.work a.output

-- 2, then 3 where the bytes are no state, then what feed answers
unfoldable pub feed_answer : List ℕ → List ℕ → List ℕ → List ℕ → Answer
feed_answer b work input out =
    cond (ltb (length work) work_area) (answer 2 0 0 b work out)
    (if_value (decode b) (λ s. fed_answer (feed_of s work input out))
    (answer 3 0 0 b work out))

-- ---- a screen

unfoldable pub active_answer : List ℕ → ActiveCount
active_answer b = if_value (decode b) active_of (active_count 3 0)

unfoldable pub row_answer : List ℕ → List ℕ → Shown ℕ
row_answer b row = if_value (decode b) (λ s. shown_in_bytes s row) (shown 3 row)

-- ---- the commands

-- a number, and a part of the command's bytes by its place and its length: 0 and 0 if refused
pub record Part : Type 0 where
  pub number : ℕ
  pub at : ℕ
  pub size : ℕ

abbrev pub part : ℕ → ℕ → ℕ → Part
part n at size = record { number = n; at = at; size = size }

abbrev pub between : ℕ → ℕ → Part
between start stop = part 0 start (stop - start)

abbrev pub no_part : ℕ → Part
no_part n = part n 0 0

unfoldable pub name_answer : List ℕ → Part
name_answer s = if_command (checked s) (λ start stop count first. between start stop) no_part

abbrev pub place_part : Result Place LookupError → Part
place_part (Ok p) = between p.start p.stop
place_part (Err e) = no_part (error_number e)

unfoldable pub argument_answer : List ℕ → List ℕ → Part
argument_answer s key = place_part (argument_at s key)

-- a number, and an integer: 0 if refused
pub record Integer : Type 0 where
  pub number : ℕ
  pub value : ℤ

abbrev pub integer : ℕ → ℤ → Integer
integer n z = record { number = n; value = z }

unfoldable pub integer_answer : List ℕ → List ℕ → Integer
integer_answer s key = let x = integer_at s key in integer (number_number x) (number_value x)
