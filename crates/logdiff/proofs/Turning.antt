-- What a step makes of a run. Assumes nothing.
use Rattle.std.proofs.Common.{◌≡◌, ℕ, ◌+◌, ◌-◌, ◌<◌, ◌≤◌, min, Bool, true, false, eqb, leb, Option, Some, None, List, [], length, take, drop, ◌++◌, sym, refl, ap, ◌∙◌, arith, length-append, drop_of_length-le, length-take, drop-drop, leb-false, leb-true, take_all, append-nil, Result, Ok, Err, IfOk}
use Rattle.buffer.proofs.WriteLaws.{take_of_drop}
use Rattle.keys.specs.Keys.{part}
use Rattle.text.specs.Text.{appended}
use Rattle.text.proofs.Texts.{decimal_length}
use Rattle.log_compare.specs.Steps as Steps
use Rattle.log_compare.specs.Steps.{standing, stepped, step_of}
use Rattle.log_compare.specs.declared.Entry.{Entry}
use Rattle.log_compare.specs.declared.Entry.TheVariants.{Both, First, Second}
use Rattle.log_compare.specs.declared.Step.{Step}
use Rattle.logdiff.specs.Lines.{length_of, record_of, line_of, lines_of}
use Rattle.logdiff.specs.Sizes.{room_length}
use Rattle.logdiff.specs.Turns.{at_hand, Filled, Passed, HasRoom, step_in, Stepped, Turned}
use Rattle.logdiff.specs.declared.window.Window.{Window}
use Rattle.logdiff.specs.declared.compare.Run.{Run}
use Rattle.logdiff.specs.declared.compare.Rooms.{Rooms}

-- ---- no text

pub nothing : (n : ℕ) (line : List ℕ) → length line ≤ n → line ≡ appended n line []
nothing n line h = sym (rw (append-nil line) (take_all n line h))

-- ---- what is at hand behind bytes that are taken

part-passed : (s : List ℕ) (a b n : ℕ) → a ≤ b → part s (min (a + n) b) b ≡ drop n (part s a b)
unfolding part
part-passed s a b n h = case (leb (a + n) b) refl
  where
    case : (t : Bool) → leb (a + n) b ≡ t → take (b - min (a + n) b) (drop (min (a + n) b) s) ≡ drop n (take (b - a) (drop a s))
    case true e =
        let few : a + n ≤ b = leb-true (a + n) b e in
        let m : min (a + n) b ≡ a + n = omega arith in
        let d : b - a ≡ n + (b - (a + n)) = omega arith in
        rw (m, d, ← take_of_drop (b - (a + n)) n (drop a s), drop-drop n a s) refl
    case false e =
        let many : b < a + n = leb-false (a + n) b e in
        let m : b - min (a + n) b ≡ 0 = omega arith in
        let short : length (take (b - a) (drop a s)) ≤ n = omega (arith, length-take (b - a) (drop a s)) in
        rw m (sym (drop_of_length-le (take (b - a) (drop a s)) short))

hand-passed : (s : List ℕ) (w r : Window) (n : ℕ) → Passed w n r → at_hand s r ≡ drop n (at_hand s w)
unfolding at_hand
hand-passed s w r n p = rw (p.from, p.to) (part-passed s w.from w.to n w.ordered)

-- ---- a line has at most 63 bytes

length-length : (a : Option ℕ) → length (length_of a) ≤ 21
unfolding length_of
length-length (Some n) = omega (arith, decimal_length n)
length-length None = omega arith

record-length : (n : ℕ) (a b : Option ℕ) → length (record_of n a b) ≤ 63
unfolding record_of
record-length n a b = simp length-append (omega (arith, decimal_length n, length-length a, length-length b))

line-length : (e : Entry) → length (line_of e) ≤ 63
unfolding line_of
line-length (Both n a b) = record-length n (Some a) (Some b)
line-length (First n a) = record-length n (Some a) None
line-length (Second n b) = record-length n None (Some b)

lines-length : (said : Option Entry) → length (lines_of said) ≤ 63
unfolding lines_of
lines-length None = omega arith
lines-length (Some e) = line-length e

-- ---- a step: run goes to r

module _ (run r : Run) (rooms rooms' : Rooms) (x y : List ℕ) (one two : Bool) (s : Step)
    (xs : x ≡ at_hand rooms.first run.first) (ends : one ≡ eqb run.first.left 0) (ys : y ≡ at_hand rooms.second run.second) (end : two ≡ eqb run.second.left 0)
    (e : stepped s ≡ step_of (standing run.state) x one y two)
    (a : rooms'.first ≡ rooms.first) (b : rooms'.second ≡ rooms.second)
    (first : Passed run.first s.first r.first) (second : Passed run.second s.second r.second) (state : r.state ≡ s.state)
    (room : HasRoom rooms) (put : rooms'.out ≡ appended room_length rooms.out (lines_of s.said)) where
  same : stepped s ≡ step_in run rooms
  same = rw (← xs, ← ends, ← ys, ← end) e

  said : s.said ≡ (step_in run rooms).said
  unfolding stepped
  said = ap (λ (z : Steps.Stepped). z.said) same

  fits : rooms'.out ≡ rooms.out ++ lines_of (step_in run rooms).said
  fits =
      let k : length (rooms.out ++ lines_of s.said) ≤ room_length = omega (arith, length-append rooms.out (lines_of s.said), lines-length s.said, room) in
      put ∙ take_all room_length (rooms.out ++ lines_of s.said) k ∙ rw said

  pub next : Stepped run rooms r rooms'
  unfolding stepped
  next = record {
    state = ap standing state ∙ ap (λ (z : Steps.Stepped). z.state) same;
    first = rw a (hand-passed rooms.first run.first r.first s.first first ∙ ap (λ (z : Steps.Stepped). drop z.first (at_hand rooms.first run.first)) same);
    second = rw b (hand-passed rooms.second run.second r.second s.second second ∙ ap (λ (z : Steps.Stepped). drop z.second (at_hand rooms.second run.second)) same);
    output = fits;
  }

-- a turn: the next pieces are read, and then run goes from middle on
module _ (E : Type 0) (run middle : Run) (rooms read rooms' : Rooms) (state : middle.state ≡ run.state) (out : read.out ≡ rooms.out)
    (first : Filled run.first rooms.first middle.first read.first) (second : Filled run.second rooms.second middle.second read.second) where
  pub turned : (r : Result Run E) → IfOk r (λ x. Stepped middle read x rooms') → IfOk r (λ x. Turned run rooms x rooms')
  turned (Ok x) s = record { middle = middle; read = read; state = state; out = out; first = first; second = second; step = s }
  turned (Err e) s = s
