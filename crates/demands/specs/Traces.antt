-- Document 01's traces T1 to T12, E5's mark and E8's drains, as one table. A row has calls from a start, the numbers that they answer, the
-- taken count of each feed and the joined records; or a command and a key, with the check's number, the number of the argument as an integer, and its value.
-- proofs/Traces.antt proves it. These are definitions: they assume nothing.
use Rattle.std.specs.Prelude.{ℕ, ◌+◌, ◌-◌, ◌^◌, ◌≡◌, true, false, List, [], ◌∷◌, ◌++◌, map, take, drop, replicate, ℤ, pos, negsuc}
use Rattle.requests.specs.declared.Phase.TheVariants.{Waiting}
use Rattle.frame.specs.Limits.{longest_record, work_area}
use Rattle.session.specs.Session.{Call, feeds, owns, feed, own}
use Rattle.rules.specs.Rules.{check_of}
use Rattle.command.specs.Lookup.{number_number, number_value, integer_at}
use Rattle.channel.specs.Receiver.{Receiver, fresh_state, with_streams, with_slot}
use Rattle.channel.specs.Channel.{channel}

abbrev pub t1 : List ℕ
t1 = 0x10 ∷ 0 ∷ 0 ∷ 1 ∷ 0 ∷ 1 ∷ 1 ∷ 0x11 ∷ 0xA2 ∷ 0x44 ∷ 0x6E ∷ 0x61 ∷ 0x6D ∷ 0x65 ∷ 0x43 ∷ 0x73 ∷ 0x65 ∷ 0x74 ∷ 0x44 ∷ 0x61 ∷ 0x72 ∷ 0x67 ∷ 0x73 ∷ 0xA0 ∷ []

-- where a trace starts: the fresh state, or request 1 waiting with stream 1 open; the work area is all zeros
pub data Start : Type 0 where
  fresh waiting : Start

unfoldable pub start_of : Start → Receiver
start_of fresh = record { state = fresh_state; work = replicate work_area 0 }
start_of waiting = record {
  state = with_streams (with_slot fresh_state 0 (record { id = 1; phase = Waiting; databit = true; length = 0 })) (true ∷ replicate 127 false);
  work = replicate work_area 0;
}

-- a feed of these bytes with so many output bytes, or a finish
pub data Line : Type 0 where
  bytes : List ℕ → ℕ → Line
  ends : ℕ → Line

unfoldable pub call_of : Line → Call
call_of (bytes input n) = feeds input (replicate n 0)
call_of (ends id) = owns id

pub record Result : Type 0 where
  pub numbers : List ℕ
  pub taken : List ℕ
  pub records : List ℕ
  pub value : ℤ

unfoldable pub after_feed : ℕ → ℕ → List ℕ → Result → Result
after_feed n k new rest = record { numbers = n ∷ rest.numbers; taken = k ∷ rest.taken; records = new ++ rest.records; value = rest.value }

unfoldable pub after_finish : ℕ → Result → Result
after_finish n rest = record { numbers = n ∷ rest.numbers; taken = rest.taken; records = rest.records; value = rest.value }

-- the number that each call answers and the taken count of each feed, in order, and the joined records
unfoldable pub ran : Receiver → List Call → Result
ran r [] = record { numbers = []; taken = []; records = []; value = pos 0 }
ran r (feeds input out ∷ cs) = let f = feed channel r input out in after_feed f.number f.taken (take f.written f.output) (ran f.next cs)
ran r (owns id ∷ cs) = let a = own channel r id in after_finish a.number (ran a.next cs)

-- lines from a start, or a command's bytes and an argument's key
pub data Trace : Type 0 where
  calls : Start → List Line → Trace
  looks : List ℕ → List ℕ → Trace

unfoldable pub result_of : Trace → Result
result_of (calls s ls) = ran (start_of s) (map call_of ls)
result_of (looks c key) = record {
  numbers = check_of c ∷ number_number (integer_at c key) ∷ [];
  taken = [];
  records = [];
  value = number_value (integer_at c key);
}

pub record Row : Type 0 where
  pub trace : Trace
  pub result : Result

abbrev pub row : Trace → List ℕ → List ℕ → List ℕ → Row
row t ns ks rs = record { trace = t; result = record { numbers = ns; taken = ks; records = rs; value = pos 0 } }

-- ---- the table

abbrev pub fed : List ℕ → Line
fed input = bytes input (longest_record + 5000)

-- length, request id, stream flags, type and flags, on stream 1
abbrev pub header : ℕ → ℕ → ℕ → ℕ → ℕ → List ℕ
header low high request stream_flags last = low ∷ high ∷ 0 ∷ request ∷ 0 ∷ 1 ∷ stream_flags ∷ last ∷ []

-- a header as two feeds, the second of its last byte
abbrev pub eighth_alone : List ℕ → List Line
eighth_alone l = fed (take 7 l) ∷ fed (drop 7 l) ∷ []

-- a new command with no bytes, and more to follow
abbrev pub opening : ℕ → ℕ → List ℕ
opening stream_flags request = header 0 0 request stream_flags 0x15

-- a command named `set` whose `args` has one argument, `x`, with these bytes for its value
abbrev pub with_x : List ℕ → List ℕ
with_x l = 0xA2 ∷ 0x44 ∷ 0x6E ∷ 0x61 ∷ 0x6D ∷ 0x65 ∷ 0x43 ∷ 0x73 ∷ 0x65 ∷ 0x74 ∷ 0x44 ∷ 0x61 ∷ 0x72 ∷ 0x67 ∷ 0x73 ∷ 0xA1 ∷ 0x41 ∷ 0x78 ∷ l

-- a look at `x`: the check's number, the integer's number, its value
abbrev pub look : List ℕ → ℕ → ℕ → ℤ → Row
look c n m z = record { trace = looks c (0x78 ∷ []); result = record { numbers = n ∷ m ∷ []; taken = []; records = []; value = z } }

-- the first 256 bytes of a command of 2,048 bytes, whose one argument is 2,027 bytes long; the other bytes are zeros
abbrev pub first_part : List ℕ
first_part = with_x (0x59 ∷ 0x07 ∷ 0xEB ∷ replicate 235 0)

-- it in eight frames of 256 bytes, with so many bytes more in the last
abbrev pub eight : ℕ → List ℕ
eight extra =
    let part : List ℕ = replicate 256 0 in
    let next : List ℕ = header 0 1 1 0 0x16 ++ part in
    header 0 1 1 1 0x15 ++ first_part ++ next ++ next ++ next ++ next ++ next ++ next ++ header extra 1 1 0 0x12 ++ part ++ replicate extra 0

-- T1's frame on the open stream, for a request and with this type and flags
abbrev pub t1_of : ℕ → ℕ → List ℕ
t1_of request last = header 0x10 0 request 0 last ++ drop 8 t1

-- seven requests that collect, T1's command with this type and flags for an eighth, and a ninth
abbrev pub nine : ℕ → List Line → List Line
nine last between =
    fed (opening 1 1 ++ opening 0 3 ++ opening 0 5 ++ opening 0 7 ++ opening 0 9 ++ opening 0 11 ++ opening 0 13)
    ∷ fed (t1_of 15 last) ∷ between ++ fed (opening 0 17) ∷ []

-- T1's command with two bytes for the head of its name
abbrev pub looseT1 : List ℕ
looseT1 = 0xA2 ∷ 0x44 ∷ 0x6E ∷ 0x61 ∷ 0x6D ∷ 0x65 ∷ 0x58 ∷ 0x03 ∷ 0x73 ∷ 0x65 ∷ 0x74 ∷ 0x44 ∷ 0x61 ∷ 0x72 ∷ 0x67 ∷ 0x73 ∷ 0xA0 ∷ []

-- T1's record, with a request and its third body byte
abbrev pub t1_record : ℕ → ℕ → List ℕ
t1_record request third = 0x13 ∷ 0 ∷ 0 ∷ 0 ∷ 1 ∷ 0 ∷ request ∷ 0 ∷ third ∷ drop 8 t1

-- T3's two bytes of data for request 1, the last or not
abbrev pub last_data : List ℕ
last_data = header 2 0 1 0 0x22 ++ 0x68 ∷ 0x69 ∷ []

abbrev pub more_data : List ℕ
more_data = header 2 0 1 0 0x21 ++ 0x68 ∷ 0x69 ∷ []

unfoldable pub table : List Row
table =
    -- T1, whole and byte by byte
    row (calls fresh (fed t1 ∷ [])) (0 ∷ []) (24 ∷ []) (t1_record 1 0)
    ∷ row (calls fresh (map (λ b. fed (b ∷ [])) t1)) (replicate 24 0) (replicate 24 1) (t1_record 1 0)
    -- T2
    ∷ row (calls fresh (fed (9 ∷ 0 ∷ 0 ∷ 1 ∷ 0 ∷ 1 ∷ 1 ∷ 0x92 ∷ 0x48 ∷ 0x69 ∷ 0x64 ∷ 0x65 ∷ 0x6E ∷ 0x74 ∷ 0x69 ∷ 0x74 ∷ 0x79 ∷ []) ∷ [])) (0 ∷ []) (17 ∷ []) []
    -- T3
    ∷ row (calls waiting (fed last_data ∷ [])) (0 ∷ []) (10 ∷ []) (5 ∷ 0 ∷ 0 ∷ 0 ∷ 2 ∷ 0 ∷ 1 ∷ 0 ∷ 1 ∷ 0x68 ∷ 0x69 ∷ [])
    -- T4, both ways: seven bytes, and then the eighth
    ∷ row (calls fresh (eighth_alone (header 0xFF 0xFF 1 1 0x11))) (0 ∷ 0 ∷ []) (7 ∷ 1 ∷ []) []
    ∷ row (calls fresh (eighth_alone (0 ∷ 0 ∷ 1 ∷ drop 3 (header 0 0 1 1 0x11)))) (0 ∷ 11 ∷ []) (7 ∷ 1 ∷ []) []
    -- T5
    ∷ row (calls fresh (fed (take 7 t1 ++ 0x13 ∷ drop 8 t1) ∷ [])) (18 ∷ []) (24 ∷ []) []
    -- T6, both ways
    ∷ row (calls fresh (nine 0x11 [])) (0 ∷ 0 ∷ 20 ∷ []) (56 ∷ 24 ∷ 8 ∷ []) (t1_record 15 0)
    ∷ row (calls fresh (nine 0x11 (ends 15 ∷ []))) (0 ∷ 0 ∷ 0 ∷ 0 ∷ []) (56 ∷ 24 ∷ 8 ∷ []) (t1_record 15 0)
    -- T7, both ways
    ∷ row (calls fresh (fed (eight 0) ∷ [])) (0 ∷ []) (2112 ∷ []) (3 ∷ 8 ∷ 0 ∷ 0 ∷ 1 ∷ 0 ∷ 1 ∷ 0 ∷ 0 ∷ first_part ++ replicate 1792 0)
    ∷ row (calls fresh (fed (eight 1) ∷ [])) (23 ∷ []) (2113 ∷ []) []
    -- T8, both ways
    ∷ look (with_x (0x3B ∷ 0x7F ∷ 0xFF ∷ 0xFF ∷ 0xFF ∷ 0xFF ∷ 0xFF ∷ 0xFF ∷ 0xFF ∷ [])) 0 0 (negsuc (2 ^ 63 - 1))
    ∷ look (with_x (0x3B ∷ 0x80 ∷ 0 ∷ 0 ∷ 0 ∷ 0 ∷ 0 ∷ 0 ∷ 0 ∷ [])) 0 8 (pos 0)
    -- T9
    ∷ look (with_x (0x20 ∷ [])) 0 0 (negsuc 0)
    -- T10, and in the channel
    ∷ look [] 24 24 (pos 0)
    ∷ row (calls fresh (fed (header 0 0 1 1 0x11) ∷ [])) (24 ∷ []) (8 ∷ []) []
    -- T11, both ways: the outer map, `args` and six arrays are eight levels; an array is no integer
    ∷ look (with_x (0x81 ∷ 0x81 ∷ 0x81 ∷ 0x81 ∷ 0x81 ∷ 0x81 ∷ 0 ∷ [])) 0 7 (pos 0)
    ∷ look (with_x (0x81 ∷ 0x81 ∷ 0x81 ∷ 0x81 ∷ 0x81 ∷ 0x81 ∷ 0x80 ∷ [])) 24 24 (pos 0)
    -- T12
    ∷ row (calls fresh (fed (opening 1 1) ∷ ends 1 ∷ [])) (0 ∷ 4 ∷ []) (8 ∷ []) []
    -- E5: a command that is written loosely, cut in the loose head; it runs, and with the data bit it waits for data
    ∷ row (calls fresh (fed (header 7 0 1 1 0x15 ++ take 7 looseT1) ∷ fed (header 10 0 1 0 0x12 ++ drop 7 looseT1) ∷ ends 1 ∷ [])) (0 ∷ 0 ∷ 0 ∷ []) (15 ∷ 18 ∷ [])
    (0x14 ∷ 0 ∷ 0 ∷ 0 ∷ 1 ∷ 0 ∷ 1 ∷ 0 ∷ 2 ∷ looseT1)
    ∷ row (calls fresh (fed (header 17 0 1 1 0x19 ++ looseT1) ∷ fed (header 0 0 1 0 0x22) ∷ ends 1 ∷ [])) (0 ∷ 0 ∷ 0 ∷ []) (25 ∷ 8 ∷ [])
    (0x14 ∷ 0 ∷ 0 ∷ 0 ∷ 1 ∷ 0 ∷ 1 ∷ 0 ∷ 3 ∷ looseT1 ++ 3 ∷ 0 ∷ 0 ∷ 0 ∷ 2 ∷ 0 ∷ 1 ∷ 0 ∷ 1 ∷ [])
    -- E8: a drain, from its finish to its end, and the id used again
    ∷ row (calls waiting (ends 1 ∷ fed more_data ∷ fed last_data ∷ fed (t1_of 1 0x11) ∷ ends 1 ∷ [])) (0 ∷ 0 ∷ 0 ∷ 0 ∷ 0 ∷ []) (10 ∷ 10 ∷ 24 ∷ []) (t1_record 1 0)
    -- till its end the id is active; after it no data is taken
    ∷ row (calls waiting (ends 1 ∷ fed (opening 0 1) ∷ [])) (0 ∷ 19 ∷ []) (8 ∷ []) []
    ∷ row (calls waiting (ends 1 ∷ fed last_data ∷ fed last_data ∷ [])) (0 ∷ 0 ∷ 27 ∷ []) (10 ∷ 10 ∷ []) []
    -- eight slots, of which one drains; and when the drain has ended
    ∷ row (calls fresh (nine 0x19 (ends 15 ∷ []))) (0 ∷ 0 ∷ 0 ∷ 20 ∷ []) (56 ∷ 24 ∷ 8 ∷ []) (t1_record 15 1)
    ∷ row (calls fresh (nine 0x19 (ends 15 ∷ fed (header 0 0 15 0 0x22) ∷ []))) (0 ∷ 0 ∷ 0 ∷ 0 ∷ 0 ∷ []) (56 ∷ 24 ∷ 8 ∷ 8 ∷ []) (t1_record 15 1)
    -- finish twice; and a data frame of length 0 that ends a drain
    ∷ row (calls waiting (ends 1 ∷ ends 1 ∷ [])) (0 ∷ 4 ∷ []) [] []
    ∷ row (calls waiting (ends 1 ∷ fed (header 0 0 1 0 0x22) ∷ ends 1 ∷ [])) (0 ∷ 0 ∷ 4 ∷ []) (8 ∷ []) []
    -- a finish in mid-frame drains the frame under way; a drained frame obeys 5, and ends its stream
    ∷ row (calls waiting (fed (take 9 last_data) ∷ ends 1 ∷ fed (drop 9 last_data) ∷ [])) (0 ∷ 0 ∷ 0 ∷ []) (9 ∷ 1 ∷ []) []
    ∷ row (calls waiting (ends 1 ∷ bytes (t1_of 3 0x11 ++ last_data) longest_record ∷ fed (drop 9 last_data) ∷ [])) (0 ∷ 5 ∷ 0 ∷ []) (33 ∷ 1 ∷ []) (t1_record 3 0)
    ∷ row (calls waiting (ends 1 ∷ fed (header 0 0 1 2 0x22) ∷ fed (opening 0 1) ∷ [])) (0 ∷ 0 ∷ 16 ∷ []) (8 ∷ 8 ∷ []) []
    ∷ []

-- every row's result is what its trace gives
abbrev pub TableHolds : Type 0
TableHolds = map (λ x. result_of x.trace) table ≡ map (λ x. x.result) table
