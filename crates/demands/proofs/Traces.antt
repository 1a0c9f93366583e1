-- The table holds, by computing it. Assumes nothing.
use Prim.Native.Nat.{ℕ, zero, suc}
use mathlib.Core.Path.{◌≡◌, refl, sym, ap, ◌∙◌, subst}
use mathlib.Core.Bool.{Bool, true, false}
use mathlib.Core.List.{List, [], ◌∷◌, map}
use native.Mathlib.Omega.{arith}
use lib.ListN.{length, take, drop, replicate, length-replicate}
use lib.Seq.{take-append_seam}
use lib.Dec.{leb, ltb}
use lib.IntN.{pos}
use borrow.Author.Tests.{le-leb}
use Rattle.frame.specs.Limits.{longest_record, work_area}
use Rattle.session.specs.Session
use Rattle.session.specs.Session.{Feed, feed, read, unchanged, wrote}
use Rattle.buffer.specs.Bytes
use Rattle.cbor.specs.Cbor
use Rattle.loose.specs.Loose
use Rattle.keys.specs.Keys
use Rattle.entries.specs.Entries
use Rattle.command_map.specs.CommandMap
use Rattle.command.specs.Command
use Rattle.command.specs.Lookup
use Rattle.frame.specs.Header
use Rattle.frame.specs.Frame
use Rattle.frame.specs.Settings
use Rattle.frame.specs.Records
use Rattle.requests.specs.Phases
use Rattle.requests.specs.Slots
use Rattle.rules.specs.Rules
use Rattle.channel.specs.Receiver
use Rattle.channel.specs.Receiver.{Receiver}
use Rattle.channel.specs.Channel
use Rattle.channel.specs.Channel.{channel}
use Rattle.demands.specs.Traces
use Rattle.demands.specs.Traces.{Start, fresh, waiting, start_of, Line, bytes, ends, call_of, Result, after_feed, after_finish, ran, Trace, calls, looks, result_of, table, TableHolds}
use Rattle.session.proofs.Laws.{feed_open, read_keeps, own_is}
use Rattle.channel.proofs.ReceiverLaws.{Ok, ok-start, finish-ok, keeps}

-- The same without the checks of rules 1, 2 and 3 and without the output, which cost the length of a work area and of an output at each
-- call to compute: rule 2 and 3 never apply in a session, and of the output a reading needs its length.
unfoldable quick : Receiver → List Line → Result
quick r [] = record { numbers = []; taken = []; records = []; value = pos 0 }
quick r (bytes input n ∷ ls) =
    elim r.state.dead [
      | suc d ↦ after_feed (suc d) 0 [] (quick r ls)
      | zero ↦ elim (ltb n longest_record) [
        | true ↦ after_feed 1 0 [] (quick r ls)
        | false ↦ let g = read channel r n input in after_feed g.number g.taken g.records (quick g.next ls)
      ]
    ]
quick r (ends id ∷ ls) = let a = Receiver.finish r id in after_finish a.number (quick a.next ls)

one-feed : (ls : List Line) (r : Receiver) (input : List ℕ) (n : ℕ) → Ok r → ((q : Receiver) → Ok q → ran q (map call_of ls) ≡ quick q ls)
    → ran r (map call_of (bytes input n ∷ ls)) ≡ quick r (bytes input n ∷ ls)
unfolding quick ran call_of unchanged wrote
one-feed ls r input n k ih = subst As (sym opened) (go r.state.dead (ltb n longest_record))
  where
    out : List ℕ
    out = replicate n 0

    As : Feed Receiver → Type 0
    As f = after_feed f.number f.taken (take f.written f.output) (ran f.next (map call_of ls)) ≡ quick r (bytes input n ∷ ls)

    opened : feed channel r input out ≡ elim r.state.dead as (λ _. Feed Receiver) [
      | suc d ↦ unchanged channel r out (suc d)
      | zero ↦ elim (ltb n longest_record) as (λ _. Feed Receiver) [ true ↦ unchanged channel r out 1 | false ↦ wrote channel out (read channel r n input) ]
    ]
    opened = subst
        (λ (l : ℕ). feed channel r input out ≡ elim r.state.dead as (λ _. Feed Receiver) [
          | suc d ↦ unchanged channel r out (suc d)
          | zero ↦ elim (ltb l longest_record) as (λ _. Feed Receiver) [ true ↦ unchanged channel r out 1 | false ↦ wrote channel out (read channel r l input) ]
        ]) (length-replicate n 0) (feed_open channel keeps r input out k)

    go : (d : ℕ) (t : Bool)
        → let f : Feed Receiver = elim d as (λ _. Feed Receiver) [
          | suc d ↦ unchanged channel r out (suc d)
          | zero ↦ elim t as (λ _. Feed Receiver) [ true ↦ unchanged channel r out 1 | false ↦ wrote channel out (read channel r n input) ]
        ] in
        ◌≡◌ {A = Result} (after_feed f.number f.taken (take f.written f.output) (ran f.next (map call_of ls)))
        (elim d as (λ _. Result) [
          | suc d ↦ after_feed (suc d) 0 [] (quick r ls)
          | zero ↦ elim t as (λ _. Result) [
            | true ↦ after_feed 1 0 [] (quick r ls)
            | false ↦ after_feed (read channel r n input).number (read channel r n input).taken (read channel r n input).records (quick (read channel r n input).next ls)
          ]
        ])
    go (suc d) t = ap (after_feed (suc d) 0 []) (ih r k)
    go zero true = ap (after_feed 1 0 []) (ih r k)
    go zero false =
        let g = read channel r n input in
        ap (λ (l : List ℕ). after_feed g.number g.taken l (ran g.next (map call_of ls))) (take-append_seam g.records (drop (length g.records) out))
        ∙ ap (after_feed g.number g.taken g.records) (ih g.next (read_keeps channel keeps r n input k))

quick-is : (ls : List Line) (r : Receiver) → Ok r → ran r (map call_of ls) ≡ quick r ls
unfolding quick ran call_of
quick-is [] r k = refl
quick-is (bytes input n ∷ ls) r k = one-feed ls r input n k (λ q h. quick-is ls q h)
quick-is (ends id ∷ ls) r k = rw (own_is channel keeps r id k) (ap (after_finish (Receiver.finish r id).number) (quick-is ls (Receiver.finish r id).next (finish-ok r id k)))

wide : leb work_area (length {A = ℕ} (replicate work_area 0)) ≡ true
wide = le-leb work_area (length {A = ℕ} (replicate work_area 0)) (rw length-replicate (omega arith))

start-ok : (s : Start) → Ok (start_of s)
unfolding start_of Receiver.fresh_state Slots.slots_fit Slots.slot_fits Slots.apart Slots.id_in Slots.is_id Slots.used_count Slots.used_bit Records.bit Phases.is_phase Phases.code Channel.shape Channel.plain_shape Channel.dead_fits Channel.held_shape Frame.is_even
start-ok fresh = ok-start (start_of fresh) wide refl refl
start-ok waiting = ok-start (start_of waiting) wide refl refl

unfoldable fast : Trace → Result
fast (calls s ls) = quick (start_of s) ls
fast (looks c key) = record {
  numbers = Rules.check_of c ∷ Lookup.number_number (Lookup.integer_at c key) ∷ [];
  taken = [];
  records = [];
  value = Lookup.number_value (Lookup.integer_at c key);
}

fast-is : (t : Trace) → result_of t ≡ fast t
unfolding result_of fast
fast-is (calls s ls) = quick-is ls (start_of s) (start-ok s)
fast-is (looks c key) = refl

-- a line that names this one unfolds every definition of the receiver
computes : Type 0
unfolding Session.after Session.read Bytes.write Rules.check_of Cbor.repeat Cbor.width Cbor.shortest Cbor.big_endian Cbor.head_value Cbor.head_of Cbor.head_at Cbor.bytes_at Cbor.tagged Cbor.item_at Cbor.key Cbor.pair Cbor.value Cbor.is_item Loose.any_of Loose.loose_item Loose.loose_pair Loose.loose Keys.part Keys.equal Keys.among Keys.twice Entries.all Entries.any Entries.entry_at Entries.entries Entries.contents Entries.find CommandMap.allowed CommandMap.value_under CommandMap.args_double CommandMap.double CommandMap.map_of Command.checked Lookup.mark_of Lookup.argument_at Lookup.integer_at Header.length_of Header.header_of Frame.frame_of Frame.flag Frame.is_even Frame.begins Frame.ends Frame.is_type Frame.is_new Frame.is_more Frame.data_follows Frame.is_last Frame.flags_fit Settings.is_identity Records.bit Records.record_of Receiver.fresh_state Phases.code Phases.is_phase Slots.first_slot Receiver.slot_at Slots.is_id Receiver.place_of Receiver.lowest_free Receiver.target Receiver.command_length Receiver.placed Receiver.command Receiver.stream_open Rules.is_command Rules.judged Rules.rules Rules.first_broken Receiver.view_of Receiver.refused Receiver.refused_work Receiver.command_slot Slots.enter Slots.data_slot Receiver.slots_after Receiver.streams_after Rules.command_byte Rules.record_with Receiver.accepted Receiver.judge Receiver.put Receiver.is_whole Receiver.too_long Receiver.counted Receiver.take_byte Slots.finish_slot Receiver.with_finished Receiver.finish_state Receiver.finish Traces.start_of Traces.after_feed Traces.after_finish Traces.table quick fast
computes = Unit {0}

fast_holds : map (λ x. fast x.trace) table ≡ map (λ x. x.result) table
unfolding computes
fast_holds = refl

pub table_holds : TableHolds
table_holds = ap (λ (g : Trace → Result). map (λ x. g x.trace) table) (λ i t. fast-is t i) ∙ fast_holds
