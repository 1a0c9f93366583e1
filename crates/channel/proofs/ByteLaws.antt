-- A byte that is judged, read alone: the eighth of its frame, or its last.
-- Assumes nothing.
use Prim.Native.Nat.{ℕ, suc, ◌+◌, ◌≤◌, ◌<◌}
use mathlib.Core.Path.{◌≡◌, refl, ap, ◌∙◌}
use mathlib.Core.Bool.{Bool, true, false, ◌&&◌}
use mathlib.Core.List.{List, [], ◌∷◌}
use native.Mathlib.Omega.{arith}
use lib.ListN.{set}
use lib.Dec.{ltb, eqb}
use borrow.Author.Tests.{eqb-true, eq-eqb, ne_eqb, lt-ltb, le-ltb}
use Rattle.frame.specs.Limits.{max_payload, longest_record}
use Rattle.frame.specs.Header.{length_of}
use Rattle.frame.specs.Frame.{frame_of}
use Rattle.session.specs.Session.{Step, Reading, read}
use Rattle.session.proofs.Laws.{read_short}
use Rattle.session.proofs.Pieces.{read_one}
use Rattle.channel.specs.declared.Channel.{Channel}
use Rattle.channel.specs.Receiver.{Receiver, with_pending, slot_at, place_of, lowest_free, target, command_length, command, placed, stream_open, view_of, refused, refused_work, command_slot, slots_after, streams_after, accepted, judge, put, is_whole, too_long, counted}
use Rattle.channel.specs.Channel.{channel}
use Rattle.channel.specs.Steps.{receiver, stepped}
use Rattle.channel.proofs.ReceiverLaws.{length-later, take-live}
use Rattle.channel.proofs.FrameLaws.{judged-at, counted-whole, counted_open}

module _ (s : Channel) (w : List ℕ) (b : ℕ) where
  abbrev n : ℕ
  n = s.pending

  abbrev r : Receiver
  r = receiver s w

  abbrev filled : List ℕ
  filled = set w n b

  module _ (live : s.dead ≡ 0) (late : 7 ≤ n) where
    same : length_of filled ≡ length_of w
    same = length-later w n b (omega arith)

    closing : n ≡ 7 + length_of w → is_whole (put r b) ≡ true
    unfolding is_whole put
    closing e = eq-eqb (suc n) (8 + length_of filled) (omega (arith, same))

    open_still : (n ≡ 7 + length_of w → ⊥) → is_whole (put r b) ≡ false
    unfolding is_whole put
    open_still e = ne_eqb (suc n) (8 + length_of filled) (λ q. e (omega (arith, same)))

    -- one that passes 11
    fits : (n ≡ 7 → length_of w ≤ max_payload) → too_long (put r b) ≡ false
    unfolding too_long put
    fits h = go (eqb (suc n) 8) refl
      where
        go : (t : Bool) → eqb (suc n) 8 ≡ t → (t && ltb max_payload (length_of filled)) ≡ false
        go true e =
            let q : suc n ≡ 8 = eqb-true (suc n) 8 e in
            let l : length_of w ≤ max_payload = h (omega arith) in
            le-ltb max_payload (length_of filled) (omega (arith, same))
        go false e = refl

    goes : (room : ℕ) → longest_record ≤ room → (is_whole (put r b) && ltb room longest_record) ≡ false
    goes room l = rw (le-ltb room longest_record l) (no (is_whole (put r b)))
      where
        no : (t : Bool) → (t && false) ≡ false
        no true = refl
        no false = refl

    -- one byte, by what the count of it comes to
    read_as : (room : ℕ) (t : Step Receiver) → (is_whole (put r b) && ltb room longest_record) ≡ false → counted (put r b) ≡ t → read channel r room (b ∷ []) ≡ stepped t
    read_as room t e c = read_one channel r room b e ∙ ap stepped (take-live r b live ∙ c)

    pub byte-short : (room : ℕ) → n ≡ 7 + length_of w → room < longest_record → read channel r room (b ∷ []) ≡ record { number = 5; taken = 0; next = r; records = [] }
    byte-short room e l = read_short channel r room b [] (rw (closing e, lt-ltb room longest_record l))

    -- the count of pending bytes plays no part in what the rules say
    unpended : judged-at (put r b) ≡ judge (with_pending s 0) (frame_of filled) filled
    unfolding judged-at put judge view_of accepted refused refused_work placed command command_length target slot_at place_of lowest_free stream_open slots_after streams_after command_slot
    unpended = refl

    pub byte-whole : (room : ℕ) → n ≡ 7 + length_of w → length_of w ≤ max_payload → longest_record ≤ room
        → read channel r room (b ∷ []) ≡ stepped (judge (with_pending s 0) (frame_of filled) filled)
    byte-whole room e l k = read_as room (judge (with_pending s 0) (frame_of filled) filled) (goes room k) (counted-whole (put r b) (fits (λ _. l)) (closing e) ∙ unpended)

    long : n ≡ 7 → max_payload < length_of w → counted (put r b) ≡ refused 11 s filled
    unfolding counted too_long put refused
    long e l =
        let a : eqb (suc n) 8 ≡ true = eq-eqb (suc n) 8 (omega arith) in
        let c : ltb max_payload (length_of filled) ≡ true = lt-ltb max_payload (length_of filled) (omega (arith, same)) in
        rw (a, c, counted)

    pub byte-long : (room : ℕ) → n ≡ 7 → (n ≡ 7 + length_of w → ⊥) → max_payload < length_of w → read channel r room (b ∷ []) ≡ stepped (refused 11 s filled)
    byte-long room e h l = read_as room (refused 11 s filled) (rw (open_still h)) (long e l)

    -- the eighth byte of a frame that has more
    abbrev begun : ℕ → ℕ → Reading Receiver
    begun number pending = record {
      number = number;
      taken = 1;
      next = receiver (with_pending s pending) filled;
      records = [];
    }

    pub byte_open : (room : ℕ) → n ≡ 7 → (n ≡ 7 + length_of w → ⊥) → length_of w ≤ max_payload → read channel r room (b ∷ []) ≡ begun 0 8
    unfolding put
    byte_open room e h l =
        read_as room (record { next = put r b; adds = [] }) (rw (open_still h)) (counted_open (put r b) (fits (λ _. l)) (open_still h))
        ∙ ap (λ (k : ℕ). begun k (suc n)) live ∙ ap (λ (k : ℕ). begun 0 (suc k)) e
