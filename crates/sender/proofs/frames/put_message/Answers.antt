-- `sender::frames::put_message` meets its contract: the total is compared part by part, and the frames are put one type behind the other.
-- Assumes nothing.
use Rattle.std.proofs.Common.{◌≡◌, ◌≤◌, true, false, is_some, ap, ◌∙◌, length, arith}
use Rattle.buffer.proofs.WriteLaws.{length-write}
use Rattle.std.proofs.lemmas.Result.{err_from_is_err_and}
use Rattle.sender.specs.declared.frames.Kind.TheVariants.{Command, Data}
use Rattle.sender.specs.declared.frames.Frames.{Frames}
use Rattle.sender.specs.Frames.{full_frames, message_frames, total}
use Rattle.sender.specs.Send.{data_bytes}
use Rattle.sender.proofs.MessageLaws.{full-fits, type-long, as_command, as_data, command-total, data_total, message_least, message_plain, message_data, message_total, no_room, some-room, given_refusal, too_short, all-put, both-put}
use Rattle.sender.proofs.frames.put_message.Goals as goal

pub returns-in_err-left : goal.returns-in_err-left
returns-in_err-left c =
    let a = c.args in
    let d = is_some a.data in
    let b = data_bytes a.data in
    let short = no_room _ _ _ _ c.room_left.ensures c.in_err-left.ensures.ok_part in
    let p = err_from_is_err_and c.from_residual.result c.from_residual.ensures.1 in
    rw (p.1, p.2, given_refusal _ _ _ c.in_err-left.ensures.value) (too_short _ _ (omega (arith, short, c.full_frames-full.ensures, command-total a.how a.command.now d b, message_least a.how a.command.now d b)))

-- the frames of the command have their place
pub put-requires : goal.put-requires
put-requires c =
    let a = c.args in
    let full = c.full_frames-full in
    let enough = some-room _ _ _ _ c.room_left.ensures _ c.in_ok-left.ensures.ok_part in
    let frames : Frames = record { how = a.how; kind = Command c.is_some-with_data.result } in
    (rw full.ensures (full-fits a.how.size (length a.command.now)), omega (arith, type-long frames full.result a.command.now, enough.0))

pub returns-in_default : goal.returns-in_default
returns-in_default c =
    let a = c.args in
    let d = is_some a.data in
    let b = data_bytes a.data in
    let full = c.full_frames-full in
    let enough = some-room _ _ _ _ c.room_left.ensures _ c.in_ok-left.ensures.ok_part in
    let with = c.is_some-with_data.ensures in
    let e = as_command a.how a.command.now d b _ full.ensures in
    let plain : d ≡ false = ap is_some c.in_default.is in
    rw (message_plain a.how a.command.now d b plain)
    (all-put _ _ _ _
    (omega (arith, enough.0, full.ensures, command-total a.how a.command.now d b)) (rw (with, e) at c.put.ensures.0 ∙ omega arith) (rw (with, e) at c.put.ensures.1))

pub returns-in_err-ok_or : goal.returns-in_err-ok_or
returns-in_err-ok_or c =
    let a = c.args in
    let d = is_some a.data in
    let b = data_bytes a.data in
    let full = c.full_frames-full in
    let data-full = c.full_frames-data_full in
    let enough = some-room _ _ _ _ c.room_left.ensures _ c.in_ok-left.ensures.ok_part in
    let short = no_room _ _ _ _ c.room_left-2.ensures c.in_err-ok_or.ensures.ok_part in
    let p = err_from_is_err_and c.from_residual-in_err-ok_or.result c.from_residual-in_err-ok_or.ensures.1 in
    let here : b ≡ c.in-Some.data.now = ap data_bytes c.in-Some.is in
    let there : d ≡ true = ap is_some c.in-Some.is in
    let counted : data-full.result ≡ full_frames a.how.size (length b) = rw here data-full.ensures in
    rw (p.1, p.2, given_refusal _ _ _ c.in_err-ok_or.ensures.value)
    (too_short _ _ (omega (
      arith,
      short,
      enough.0,
      enough.1,
      full.ensures,
      data-full.ensures,
      ap length here,
      command-total a.how a.command.now d b,
      data_total a.how a.command.now d b,
      counted,
      message_total a.how a.command.now d b there,
    )))

pub put-at-requires : goal.put-at-requires
put-at-requires c =
    let a = c.args in
    let full = c.full_frames-full in
    let enough = some-room _ _ _ _ c.room_left.ensures _ c.in_ok-left.ensures.ok_part in
    let frames : Frames = record { how = a.how; kind = Command c.is_some-with_data.result } in
    (rw full.ensures (full-fits a.how.size (length a.command.now)), omega (arith, type-long frames full.result a.command.now, enough.0))

-- so have those of the data, behind them
pub put-requires-2 : goal.put-requires-2
put-requires-2 c =
    let a = c.args in
    let full = c.full_frames-full in
    let data-full = c.full_frames-data_full in
    let bytes = c.in-Some.data.now in
    let enough = some-room _ _ _ _ c.room_left.ensures _ c.in_ok-left.ensures.ok_part in
    let enough-left = some-room _ _ _ _ c.room_left-2.ensures _ c.in_ok-ok_or.ensures.ok_part in
    let frames : Frames = record { how = a.how; kind = Command c.is_some-with_data.result } in
    let data-frames : Frames = record { how = a.how; kind = Data } in (
      rw data-full.ensures (full-fits a.how.size (length bytes)),
      rw (c.put-at.ensures.1, length-write)
          (omega (arith, c.put-at.ensures.0, type-long frames full.result a.command.now, type-long data-frames data-full.result bytes, enough, enough-left)),
    )

pub returns : goal.returns
returns c =
    let a = c.args in
    let d = is_some a.data in
    let b = data_bytes a.data in
    let full = c.full_frames-full in
    let data-full = c.full_frames-data_full in
    let enough = some-room _ _ _ _ c.room_left.ensures _ c.in_ok-left.ensures.ok_part in
    let enough-left = some-room _ _ _ _ c.room_left-2.ensures _ c.in_ok-ok_or.ensures.ok_part in
    let here : b ≡ c.in-Some.data.now = ap data_bytes c.in-Some.is in
    let there : d ≡ true = ap is_some c.in-Some.is in
    let counted : data-full.result ≡ full_frames a.how.size (length b) = rw here data-full.ensures in
    let with = c.is_some-with_data.ensures in
    let e = as_command a.how a.command.now d b _ full.ensures in
    let k = as_data a.how a.command.now d b _ counted in
    let m = message_data a.how a.command.now d b there in
    let fits : total (message_frames a.how a.command.now d b) ≤ length a.out.now = omega (
      arith,
      enough,
      enough-left,
      full.ensures,
      counted,
      ap length here,
      command-total a.how a.command.now d b,
      data_total a.how a.command.now d b,
      message_total a.how a.command.now d b there,
    ) in
    rw m
    (both-put _ _ _ _ _ _ _ (rw m at fits) (rw (with, e) at c.put-at.ensures.0) (rw (with, e) at c.put-at.ensures.1) (rw (← here, k) at c.put-2.ensures.0)
    (rw (← here, k) at c.put-2.ensures.1))
