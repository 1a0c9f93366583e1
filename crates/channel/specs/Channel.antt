-- Rules 2 and 3, and the receiver as a machine: feed and finish are those of `Session`.
use Rattle.std.specs.Prelude.{ℕ, ◌+◌, Bool, cond, not, ◌&&◌, ◌||◌, List, length, leb, ltb, eqb, Result, Ok, Err}
use Rattle.channel.specs.declared.Channel.{Channel}
use Rattle.channel.specs.declared.Fed.{Fed}
use Rattle.channel.specs.declared.Refusal.{Refusal}
use Rattle.channel.specs.declared.Refusal.TheVariants.{NotInShape, Dead, NotFinishable}
use Rattle.frame.specs.Limits.{max_payload, longest_record, frame_area, work_area}
use Rattle.session.specs.Session.{Machine, Feed, Reply, feed}
use Rattle.frame.specs.Header.{length_of}
use Rattle.channel.specs.Receiver.{Receiver, take_byte, finish_state, finish, put, is_whole}
use Rattle.requests.specs.Slots.{slots_fit, used_count}

unfoldable pub dead_fits : ℕ → Bool
dead_fits n = eqb n 0 || leb 11 n && leb n 29

-- rule 3's plain numbers
unfoldable pub plain_shape : Channel → Bool
plain_shape s = ltb s.pending frame_area && (slots_fit s.slots && eqb s.active (used_count s.slots)) && dead_fits s.dead

-- and its held length
unfoldable pub held_shape : Receiver → Bool
held_shape r = ltb r.state.pending 8 || leb (length_of r.work) max_payload && ltb r.state.pending (8 + length_of r.work)

unfoldable pub shape : Receiver → Bool
shape r = plain_shape r.state && held_shape r

abbrev pub channel : Machine
channel = record {
  Recv = Receiver;
  roomy = λ r. leb work_area (length r.work);
  shaped = shape;
  plain = λ r. plain_shape r.state;
  dead = λ r. r.state.dead;
  closes = λ r b. is_whole (put r b);
  longest = longest_record;
  byte = take_byte;
  call = finish;
}

-- what feed and finish answer
abbrev pub feed_of : Channel → List ℕ → List ℕ → List ℕ → Feed Receiver
feed_of s work input out = feed channel (record { state = s; work = work }) input out

abbrev pub finish_of : Channel → ℕ → Reply Channel
finish_of s id = cond (plain_shape s) (finish_state s id) (record { next = s; number = 3 })

-- feed's answer with the work area and the output after the call
abbrev pub fed_with : Fed → List ℕ → List ℕ → Feed Receiver
fed_with a work out = record { number = a.number; taken = a.taken; written = a.written; next = record { state = a.channel; work = work }; output = out }

-- the number of a refusal of finish
abbrev pub refusal_of : Refusal → ℕ
refusal_of NotInShape = 3
refusal_of (Dead n) = n
refusal_of NotFinishable = 4

-- why finish refuses: out of shape, then dead with its number, then the request neither waits nor runs
abbrev pub refusal_in : Channel → Refusal
refusal_in s = cond (not (plain_shape s)) NotInShape (cond (not (eqb s.dead 0)) (Dead s.dead) NotFinishable)

-- finish's answer, on a state: a refusal leaves it
abbrev pub finished : Channel → Result Channel Refusal → Reply Channel
finished s (Ok next) = record { next = next; number = 0 }
finished s (Err r) = record { next = s; number = refusal_of r }
