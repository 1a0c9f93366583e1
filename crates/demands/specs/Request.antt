-- A request by itself: what its own frames and finishes make of it. Nothing here knows of slots or of a work area.
use Rattle.std.specs.Prelude.{ℕ, Bool, false, cond, List, [], ◌++◌, eqb}
use Rattle.requests.specs.declared.Phase.{Phase}
use Rattle.requests.specs.declared.Phase.TheVariants.{Free, Collecting, Waiting, Running, Draining}
use Rattle.frame.specs.Frame.{Frame, flag}
use Rattle.requests.specs.Phases.{is_phase}

-- a frame of type 1 or 2 without its stream id and stream flags, or a finish
pub data Item : Type 0 where
  part : ℕ → ℕ → List ℕ → Item
  ending : Item

unfoldable pub item_of : Frame → Item
item_of f = part f.type f.flags f.payload

-- a request's phase, data bit and command bytes so far
pub record Request : Type 0 where
  pub phase : Phase
  pub databit : Bool
  pub bytes : List ℕ

unfoldable pub idle : Request
idle = record { phase = Free; databit = false; bytes = [] }

abbrev pub is_in : Phase → Request → Bool
is_in p q = is_phase p q.phase

unfoldable pub enters : Phase → Request → Request
enters p q = record { phase = p; databit = q.databit; bytes = q.bytes }

-- what an item does to its request: its last data ends one that drains, and makes one that waits run; a finish lets one that waits
-- drain, and ends one that runs
unfoldable pub moved : Request → Item → Request
moved q (part type flags payload) =
    cond (eqb type 1)
    (cond (flag 0x04 flags)
    (record { phase = Collecting; databit = flag 0x08 flags; bytes = q.bytes ++ payload })
    (record { phase = cond (flag 0x08 flags) Waiting Running; databit = flag 0x08 flags; bytes = [] }))
    (cond (eqb flags 0x02) (cond (is_in Draining q) idle (enters Running q)) q)
moved q ending = cond (is_in Waiting q) (enters Draining q) (cond (is_in Running q) idle q)
