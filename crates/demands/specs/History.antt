-- Demand 2: the frame rules read over the history alone, with no slot, no stream table and no work area. A history has the frames that
-- the bytes taken complete, cut out by their lengths, and the finish calls at their places.
use Rattle.std.specs.Prelude.{ℕ, zero, suc, ◌+◌, ◌<◌, ◌≡◌, Bool, true, false, cond, ◌&&◌, ◌||◌, not, List, [], ◌∷◌, ◌++◌, length, leb, eqb}
use Rattle.requests.specs.declared.Phase.TheVariants.{Free, Running, Draining}
use Rattle.frame.specs.Limits.{slot_count}
use Rattle.session.specs.Session.{Step, Reply, Event, took, asked, Outcome, fed, answered}
use Rattle.frame.specs.Frame.{Frame, frame_of, ends, is_type, is_new, is_last}
use Rattle.frame.specs.Header.{length_of}
use Rattle.frame.specs.Records.{bit}
use Rattle.demands.specs.Request.{Item, ending, item_of, Request, idle, is_in, moved}
use Rattle.requests.specs.Phases.{can_finish}
use Rattle.rules.specs.Rules.{View, is_command, overlong, rules, first_broken, record_with}

-- a history has the latest first
pub data Deed : Type 0 where
  frame : Frame → Deed
  finish : ℕ → Deed

abbrev pub History : Type 0
History = List Deed

-- the last frame on the stream has no end flag
unfoldable pub stream_open : History → ℕ → Bool
stream_open [] k = false
stream_open (frame f ∷ h) k = cond (eqb f.stream k) (not (ends f)) (stream_open h k)
stream_open (finish j ∷ h) k = stream_open h k

-- a request's own: its frames of type 1 and 2, without their stream fields, and its finishes
unfoldable pub is_of : ℕ → Frame → Bool
is_of id f = eqb f.request id && (is_type 1 f || is_type 2 f)

unfoldable pub items_of : ℕ → History → List Item
items_of id [] = []
items_of id (frame f ∷ h) = cond (is_of id f) (item_of f ∷ items_of id h) (items_of id h)
items_of id (finish j ∷ h) = cond (eqb j id) (ending ∷ items_of id h) (items_of id h)

-- what they make of a request that was idle
unfoldable pub stands : List Item → Request
stands [] = idle
stands (i ∷ is) = moved (stands is) i

-- a request's phase, data bit and command bytes so far, all payloads joined in order
unfoldable pub request : History → ℕ → Request
request h id = stands (items_of id h)

-- how many numbers below n pass the test
unfoldable pub how_many : ℕ → (ℕ → Bool) → ℕ
how_many zero test = 0
how_many (suc n) test = bit (test n) + how_many n test

abbrev pub id_count : ℕ
id_count = 65536

unfoldable pub active_ids : History → ℕ
active_ids h = how_many id_count (λ id. not (is_in Free (request h id)))

-- ---- what a frame meets

abbrev pub own : History → Frame → Request
own h f = request h f.request

-- the command's bytes with this frame
unfoldable pub command : History → Frame → List ℕ
command h f = (own h f).bytes ++ f.payload

unfoldable pub view_in : History → Frame → View
view_in h f = record {
  is_open = stream_open h f.stream;
  phase = (own h f).phase;
  databit = (own h f).databit;
  full = leb slot_count (active_ids h);
  size = length (command h f);
  command = command h f;
}

-- the number of the first broken rule, 0 where the frame is allowed
unfoldable pub refusal_of : History → Frame → ℕ
refusal_of h f = first_broken rules f (view_in h f)

-- ---- what is handed out

-- the record of an allowed frame
unfoldable pub record_for : History → Frame → List ℕ
record_for h f = record_with f (view_in h f)

-- and what a refused frame gives: nothing
unfoldable pub given : History → Frame → List ℕ
given h f = elim (refusal_of h f) [ zero ↦ record_for h f | suc n ↦ [] ]

unfoldable pub answer_to : History → ℕ → ℕ
answer_to h id = cond (can_finish (request h id).phase) 0 4

-- ---- how many new frames a history has, how many finishes of running ids, and how many drains ended

unfoldable pub new_frames : History → ℕ
new_frames [] = 0
new_frames (frame f ∷ h) = bit (is_command f && is_new f) + new_frames h
new_frames (finish id ∷ h) = new_frames h

unfoldable pub finishes : History → ℕ
finishes [] = 0
finishes (frame f ∷ h) = finishes h
finishes (finish id ∷ h) = bit (is_in Running (request h id)) + finishes h

unfoldable pub ends_drain : History → Frame → Bool
ends_drain h f = is_type 2 f && is_last f && is_in Draining (own h f)

unfoldable pub drains_ended : History → ℕ
drains_ended [] = 0
drains_ended (frame f ∷ h) = bit (ends_drain h f) + drains_ended h
drains_ended (finish id ∷ h) = drains_ended h

-- the count of active requests: new frames accepted minus finishes of running ids minus drains ended
abbrev pub IsCount : ℕ → History → Type 0
IsCount n h = n + finishes h + drains_ended h ≡ new_frames h

-- ---- the reading

-- of a frame's first bytes: rule 11, and that they are all of it
unfoldable pub is_long : List ℕ → Bool
is_long bs = eqb (length bs) 8 && overlong (length_of bs)

unfoldable pub is_all : List ℕ → Bool
is_all bs = eqb (length bs) (8 + length_of bs)

-- what has happened: the refusal, 0 while there is none, the history, the first bytes of the frame under way
pub record Past : Type 0 where
  pub number : ℕ
  pub deeds : History
  pub under : List ℕ

unfoldable pub nothing : Past
nothing = record { number = 0; deeds = []; under = [] }

unfoldable pub stopped : ℕ → Past → Step Past
stopped n t = record { next = record { number = n; deeds = t.deeds; under = [] }; adds = [] }

-- a frame, cut out by its length
unfoldable pub frame_after : Past → Frame → Step Past
frame_after t f =
    elim (refusal_of t.deeds f) [
      | zero ↦ record { next = record { number = 0; deeds = frame f ∷ t.deeds; under = [] }; adds = record_for t.deeds f }
      | suc n ↦ stopped (suc n) t
    ]

-- the first bytes of a frame
unfoldable pub bytes_after : Past → List ℕ → Step Past
bytes_after t bs =
    elim (is_long bs) [
      | true ↦ stopped 11 t
      | false ↦ elim (is_all bs) [
        | true ↦ frame_after t (frame_of bs)
        | false ↦ record { next = record { number = 0; deeds = t.deeds; under = bs }; adds = [] }
      ]
    ]

unfoldable pub byte_after : Past → ℕ → Step Past
byte_after t b = elim t.number [ zero ↦ bytes_after t (t.under ++ b ∷ []) | suc n ↦ record { next = t; adds = [] } ]

unfoldable pub finish_after : Past → ℕ → Reply Past
finish_after t id =
    elim t.number [
      | suc n ↦ record { next = t; number = suc n }
      | zero ↦ record { next = record { number = 0; deeds = finish id ∷ t.deeds; under = t.under }; number = answer_to t.deeds id }
    ]

unfoldable pub told : Past → List Event → Outcome Past
told t [] = record { end = t; records = []; answers = [] }
told t (took b ∷ es) = fed (byte_after t b).adds (told (byte_after t b).next es)
told t (asked id ∷ es) = answered (finish_after t id).number (told (finish_after t id).next es)

-- the bytes are bytes
pub data Sent : List Event → Type 0 where
  none : Sent []
  byte : {b : ℕ} {es : List Event} → b < 256 → Sent es → Sent (took b ∷ es)
  call : {id : ℕ} {es : List Event} → Sent es → Sent (asked id ∷ es)
