-- What is proved beside the contracts, each claim under its name: of refusals in proofs/Refusals.antt, of whole sessions in
-- proofs/Sessions.antt, of a command's parts in proofs/PartLaws.antt. These are definitions: they assume nothing.
use Rattle.std.specs.Prelude.{ℕ, suc, ◌<◌, ◌≤◌, ◌≡◌, true, false, List, [], ◌∷◌, length, take, drop}
use Rattle.std.proofs.Math.Option.{some, none}
use Rattle.frame.specs.Limits.{longest_record, work_area}
use Rattle.session.specs.Session.{Call, feeds, owns, Outcome, fed, answered, uncut, session, events}
use Rattle.channel.specs.declared.Channel.{Channel}
use Rattle.channel.specs.Receiver.{Receiver}
use Rattle.channel.specs.Channel.{shape, channel}
use Rattle.command.specs.Lookup.{name_of, argument_at, part_at}
use Rattle.demands.specs.Demands.{Sound, Fed, fresh_on}
use Rattle.demands.specs.History.{nothing, told, IsCount}
use Rattle.layout.specs.State.{StateFits, encode, decode}
use Rattle.fields.specs.Laws.{AreBytes}
use Rattle.hgrpc.specs.Calls.{kept, answer, feed_answer, finish_answer, active_answer, name_answer, argument_answer}

-- ---- refusals: no count, and every lent byte as it was

-- a feed's, in the order of the checks: 2; 3 for bytes that are no state, and for a state out of shape; the dead number; 1
pub record FeedRefusals (b work input out : List ℕ) : Type 0 where
  pub small : length work < work_area → feed_answer b work input out ≡ answer 2 0 0 b work out
  pub other : work_area ≤ length work → decode b ≡ none → feed_answer b work input out ≡ answer 3 0 0 b work out
  pub unshaped : (s : Channel) → work_area ≤ length work → decode b ≡ some s → shape (record { state = s; work = work }) ≡ false
      → feed_answer b work input out ≡ answer 3 0 0 b work out
  pub dead : (s : Channel) (n : ℕ) → work_area ≤ length work → decode b ≡ some s → shape (record { state = s; work = work }) ≡ true → s.dead ≡ suc n
      → feed_answer b work input out ≡ answer (suc n) 0 0 b work out
  pub short : (s : Channel) → work_area ≤ length work → decode b ≡ some s → shape (record { state = s; work = work }) ≡ true → s.dead ≡ 0 → length out < longest_record
      → feed_answer b work input out ≡ answer 1 0 0 b work out

abbrev pub FeedRefused : Type 0
FeedRefused = (b work input out : List ℕ) → AreBytes b → FeedRefusals b work input out

-- a finish that does not answer 0, whatever its number
abbrev pub FinishRefused : Type 0
FinishRefused = (b : List ℕ) (id n : ℕ) → AreBytes b → (finish_answer b id).number ≡ suc n → finish_answer b id ≡ kept (suc n) b

-- ---- whole sessions

-- what the caller lends again and again
pub record Lent : Type 0 where
  pub state : List ℕ
  pub work : List ℕ

abbrev pub lent : Receiver → Lent
lent r = record { state = encode r.state; work = r.work }

-- each call gets the state's bytes and the work area as last left
unfoldable pub calls : Lent → List Call → Outcome Lent
calls q [] = record { end = q; records = []; answers = [] }
calls q (feeds input out ∷ cs) =
    let a = feed_answer q.state q.work input out in
    fed (take a.written a.output) (calls (record { state = a.state; work = a.work }) cs)
calls q (owns id ∷ cs) =
    let a = finish_answer q.state id in
    answered a.number (calls (record { state = a.bytes; work = q.work }) cs)

-- with the state at the end in bytes
abbrev pub in_bytes : Outcome Receiver → Outcome Lent
in_bytes o = record { end = lent o.end; records = o.records; answers = o.answers }

-- neither 2 nor 3 applies, and the numbers fit their fields
pub record Starts (r : Receiver) : Type 0 where
  pub sound : Sound r
  pub fits : StateFits r.state
  pub bytes : AreBytes r.work

-- Every list of calls over bytes comes to what the calls over the state itself come to, and so to the uncut reading: with the same records,
-- answers and work area, and the state's bytes at the end.
pub record Whole (r : Receiver) (cs : List Call) : Type 0 where
  pub session : calls (lent r) cs ≡ in_bytes (session channel r cs)
  pub uncut : calls (lent r) cs ≡ in_bytes (uncut channel r (events channel r cs))

abbrev pub AllSessions : Type 0
AllSessions = (r : Receiver) → Starts r → (cs : List Call) → Fed cs → Whole r cs

-- so it does from the bytes that `hgrpc_fresh` makes, on any work area that is long enough
abbrev pub FreshStarts : Type 0
FreshStarts = (w : List ℕ) → work_area ≤ length w → AreBytes w → Starts (fresh_on w)

-- After every list of calls over bytes that `hgrpc_fresh` made, `hgrpc_active` answers 0 and the count that the history has.
abbrev pub ActiveInBytes : Type 0
ActiveInBytes =
    (w : List ℕ) → work_area ≤ length w → AreBytes w → (cs : List Call) → Fed cs
    → let a = active_answer (calls (lent (fresh_on w)) cs).end.state in let h = (told nothing (events channel (fresh_on w) cs)).end.deeds in
    (a.number ≡ 0) × IsCount a.count h

-- ---- a command's parts: what a place and a length name is what the lookup in Rattle gives

abbrev pub NameThere : Type 0
NameThere = (s : List ℕ) → take (name_answer s).size (drop (name_answer s).at s) ≡ name_of s

abbrev pub ValueThere : Type 0
ValueThere = (s key : List ℕ) → take (argument_answer s key).size (drop (argument_answer s key).at s) ≡ part_at s (argument_at s key)
