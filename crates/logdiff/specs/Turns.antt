-- What reading a log through comes to, and what a turn of the loop does with the bytes at hand of both logs. These are definitions: they assume nothing.
use Rattle.std.specs.Prelude.{◌≡◌, ℕ, ◌+◌, ◌-◌, ◌%◌, ◌^◌, ◌<◌, ◌≤◌, min, ◌⊎◌, Result, Ok, List, [], ◌++◌, length, drop, ◌==◌}
use Rattle.keys.specs.Keys.{part}
use Rattle.files.specs.declared.unread.Unread.{Unread}
use Rattle.log_compare.specs.Steps as Steps
use Rattle.log_compare.specs.Steps.{standing, step_of}
use Rattle.log_compare.specs.declared.Scanning.{Scanning}
use Rattle.logdiff.specs.Lines.{lines_of}
use Rattle.logdiff.specs.Sizes.{room_length}
use Rattle.logdiff.specs.declared.say.Fault.{Fault}
use Rattle.logdiff.specs.declared.through.Log.{Log}
use Rattle.logdiff.specs.declared.window.Window.{Window}
use Rattle.logdiff.specs.declared.compare.Run.{Run}
use Rattle.logdiff.specs.declared.compare.Rooms.{Rooms}

-- ---- the bytes at hand of a log

unfoldable pub at_hand : List ℕ → Window → List ℕ
at_hand room w = part room w.from w.to

-- before its first byte
pub record Begun (log : Log) (r : Window) : Type 0 where
  pub place : r.place ≡ 0
  pub left : r.left ≡ log.length
  pub none : r.from ≡ r.to

-- no byte of the log is lost or comes twice, and none at hand is read over
pub record Filled (w : Window) (room : List ℕ) (r : Window) (room' : List ℕ) : Type 0 where
  pub rest : r.left + (r.to - r.from) ≡ w.left + (w.to - w.from)
  pub place : r.place ≡ (w.place + (w.left - r.left)) % 2 ^ 64
  pub kept : w.from < w.to → (r ≡ w) × (room' ≡ room)

-- so many bytes of those at hand are passed
pub record Passed (w : Window) (n : ℕ) (r : Window) : Type 0 where
  pub file : r.file ≡ w.file
  pub place : r.place ≡ w.place
  pub left : r.left ≡ w.left
  pub from : r.from ≡ min (w.from + n) w.to
  pub to : r.to ≡ w.to

-- ---- a run

-- at the front of both logs, with no output that waits
pub record Started (one two : Log) (r : Run) (rooms : Rooms) : Type 0 where
  pub state : r.state ≡ Steps.fresh
  pub first : Begun one r.first
  pub second : Begun two r.second
  pub held : rooms.out ≡ []

-- a line fits behind the output that waits
abbrev pub HasRoom : Rooms → Type 0
HasRoom rooms = length rooms.out + 64 ≤ room_length

-- the output that waits is written, or a line fits behind it
pub record Kept (out out' : List ℕ) : Type 0 where
  pub lines : (out' ≡ out) ⊎ (out' ≡ [])
  pub line : length out' + 64 ≤ room_length

-- the step with what is at hand
abbrev pub step_in : Run → Rooms → Steps.Stepped
step_in run rooms =
    step_of (standing run.state) (at_hand rooms.first run.first) (run.first.left == 0) (at_hand rooms.second run.second) (run.second.left == 0)

-- the state is that behind the step, what it took of each log is no more at hand, and the line that it says stands behind the output that
-- waits
pub record Stepped (run : Run) (rooms : Rooms) (r : Run) (rooms' : Rooms) : Type 0 where
  pub state : standing r.state ≡ (step_in run rooms).state
  pub first : at_hand rooms'.first r.first ≡ drop (step_in run rooms).first (at_hand rooms.first run.first)
  pub second : at_hand rooms'.second r.second ≡ drop (step_in run rooms).second (at_hand rooms.second run.second)
  pub output : rooms'.out ≡ rooms.out ++ lines_of (step_in run rooms).said

-- before the step the next pieces are read
pub record Turned (run : Run) (rooms : Rooms) (r : Run) (rooms' : Rooms) : Type 0 where
  pub middle : Run
  pub read : Rooms
  pub state : middle.state ≡ run.state
  pub out : read.out ≡ rooms.out
  pub first : Filled run.first rooms.first middle.first read.first
  pub second : Filled run.second rooms.second middle.second read.second
  pub step : Stepped middle read r rooms'

-- behind the turn the output that waits is written, or a line fits behind it
pub record GoneOn (run : Run) (rooms : Rooms) (r : Run) (rooms' : Rooms) : Type 0 where
  pub put : Rooms
  pub turn : Turned run rooms r put
  pub first : rooms'.first ≡ put.first
  pub second : rooms'.second ≡ put.second
  pub output : Kept put.out rooms'.out

-- ---- a log that was read through is compared if no read failed and it ends between records, and then as many bytes of it as were read
abbrev pub Judged : Result Scanning Unread → Result Log Fault → Type 0
Judged reading r = (log : Log) → r ≡ Ok log → (scan : Scanning) × (reading ≡ Ok scan) × (scan.start ≡ scan.place) × (log.length ≡ scan.place)
