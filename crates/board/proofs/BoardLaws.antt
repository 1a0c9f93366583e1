-- What a command changes and what it leaves as it was, and what a label's unused places read.
-- Assumes nothing.
use Prim.Native.Nat.{ℕ, zero, suc, ◌<◌, ◌≤◌}
use mathlib.Core.Path.{◌≡◌, refl, ap, ◌∙◌}
use mathlib.Core.Bool.{Bool, false}
use mathlib.Core.List.{List, [], ◌∷◌}
use native.Mathlib.Omega.{arith}
use lib.Dec.{lit≤}
use lib.ListN.{length, take, get_or, set, replicate, length-set, length-map, length-replicate, get_or-map}
use lib.Seq.{get_or-set_same, get_or-set_other}
use Rattle.buffer.specs.Bytes.{write}
use Rattle.buffer.proofs.WriteLaws.{length-write, take-front}
use Rattle.keys.specs.Keys.{part}
use Rattle.board.specs.declared.Coil.{Coil}
use Rattle.board.specs.declared.Board.{Board}
use Rattle.board.specs.declared.Change.{Change}
use Rattle.std.specs.Prelude.{Result, Ok, Err}
use Rattle.board.specs.declared.Refusal.{Refusal}
use Rattle.board.specs.declared.Change.TheVariants.{Switch, Label, AllOff}
use Rattle.board.specs.Commands.{coil_count, longest_label, change_of}
use Rattle.board.specs.Board.{first_coil, first_board, coil_at, with_coil, switched, labelled, all_off, applied_by, applied, after}
use Rattle.board.specs.Laws as laws
use Rattle.board.specs.Laws.{AsksSet, Others, Switched, Labelled, RefusedKeeps, Done, AcceptedDoes, AskedAccepted, Clear, Every, UnusedZero}
use Rattle.board.proofs.Asked.{Says, says, asks_set, asks-label, asks-off}

-- ---- a refused command

pub refused-keeps : RefusedKeeps
unfolding applied
refused-keeps s b = by (change_of s)
  where
    by : (x : Result Change Refusal) → ((applied_by s x b).number ≡ 0 → ⊥) → (applied_by s x b).board ≡ b
    by (Ok x) h = absurd (h refl)
    by (Err r) h = refl

-- ---- another coil at a place

module _ (b : Board) (i : ℕ) (c : Coil) where
  set_there : i < length b.coils → coil_at (with_coil b i c) i ≡ c
  set_there h = get_or-set_same b.coils i c first_coil h

  set-others : Others b (with_coil b i c) i
  set-others = record { count = length-set b.coils i c; others = λ j n. get_or-set_other b.coils i j c first_coil n }

-- ---- what an accepted command changes

module _ (b : Board) (i : ℕ) (inside : i < length b.coils) where
  switch_does : (v : Bool) → Switched b (with_coil b i (switched v (coil_at b i))) i v
  switch_does v =
      let t = set_there b i (switched v (coil_at b i)) inside in
      record {
        switch = ap (λ (c : Coil). c.on) t;
        label = record { length = ap (λ (c : Coil). c.length) t; label = ap (λ (c : Coil). c.label) t };
        rest = set-others b i _;
      }

  label_does : (t : List ℕ) → length t ≤ longest_label → Labelled b (with_coil b i (labelled t (coil_at b i))) i t
  label_does t fits =
      let e = set_there b i (labelled t (coil_at b i)) inside in
      record {
        used = ap (λ (c : Coil). c.length) e;
        label = ap (λ (c : Coil). take (length t) c.label) e ∙ take-front (replicate longest_label 0) t fits;
        switch = record { on = ap (λ (c : Coil). c.on) e };
        rest = set-others b i _;
      }

off-coil : (b : Board) (i : ℕ) → coil_at (all_off b) i ≡ switched false (coil_at b i)
off-coil b i = get_or-map (switched false) b.coils i first_coil

off-count : (b : Board) → length (all_off b).coils ≡ length b.coils
off-count b = length-map b.coils (switched false)

off_does : (b : Board) → laws.AllOff b (all_off b)
off_does b = record {
  count = off-count b;
  switches = λ i. ap (λ (c : Coil). c.on) (off-coil b i);
  labels = λ i. record { length = ap (λ (c : Coil). c.length) (off-coil b i); label = ap (λ (c : Coil). c.label) (off-coil b i) };
}

pub accepted_does : AcceptedDoes
unfolding applied
accepted_does s b sixteen = by (change_of s) (says s)
  where
    by : (x : Result Change Refusal) → Says s x → (applied_by s x b).number ≡ 0 → Done s b (applied_by s x b).board
    by (Ok (Switch i v)) d e = let h = d.asks.coil.below in Done.set i v d.asks d.only (switch_does b i (omega arith) v)
    by (Ok (Label i start stop)) d e =
        let h = d.asks.coil.below in
        Done.label i (part s start stop) d.asks d.only (label_does b i (omega arith) (part s start stop) d.asks.fits)
    by (Ok AllOff) d e = Done.off d.asks d.only (off_does b)
    by (Err r) d e = absurd (d e)

-- the same, from what a command asks for
pub set_does : (s : List ℕ) (b : Board) (i : ℕ) (v : Bool) → length b.coils ≡ coil_count → AsksSet s i v → Switched b (applied s b).board i v
unfolding applied
set_does s b i v sixteen a = let h = a.coil.below in rw (asks_set s i v a) (switch_does b i (omega arith) v)

pub asked-accepted : AskedAccepted
unfolding applied
asked-accepted s b = record {
  set = λ i v a. rw (asks_set s i v a);
  label = λ i t a. rw (asks-label s i t a);
  off = λ a. rw (asks-off s a);
}

-- ---- what every command keeps of each coil

-- a coil among those of a list with another one set
set_all : (P : Coil → Type 0) (l : List Coil) (i : ℕ) (c : Coil) → ((j : ℕ) → P (get_or l j first_coil)) → P c → (j : ℕ) → P (get_or (set l i c) j first_coil)
set_all P [] i c h k j = h j
set_all P (x ∷ l) zero c h k zero = k
set_all P (x ∷ l) zero c h k (suc j) = h (suc j)
set_all P (x ∷ l) (suc i) c h k zero = h zero
set_all P (x ∷ l) (suc i) c h k (suc j) = set_all P l i c (λ m. h (suc m)) k j

-- what a coil keeps when it is switched or labelled
pub record Stays (P : Coil → Type 0) : Type 0 where
  pub switched : (v : Bool) (c : Coil) → P c → P (switched v c)
  pub labelled : (t : List ℕ) (c : Coil) → length t ≤ longest_label → P (labelled t c)

module _ (P : Coil → Type 0) (stays : Stays P) where
  set_every : (b : Board) (i : ℕ) (c : Coil) → Every P b → P c → Every P (with_coil b i c)
  set_every b i c k h = record { sixteen = length-set b.coils i c ∙ k.sixteen; coils = set_all P b.coils i c k.coils h }

  off_every : (b : Board) → Every P b → Every P (all_off b)
  off_every b k = record { sixteen = off-count b ∙ k.sixteen; coils = λ i. rw (off-coil b i) (stays.switched false (coil_at b i) (k.coils i)) }

  pub applied_every : (s : List ℕ) (b : Board) → Every P b → Every P (applied s b).board
  unfolding applied
  applied_every s b k = by (change_of s) (says s)
    where
      by : (x : Result Change Refusal) → Says s x → Every P (applied_by s x b).board
      by (Ok (Switch i v)) d = set_every b i _ k (stays.switched v (coil_at b i) (k.coils i))
      by (Ok (Label i start stop)) d = set_every b i _ k (stays.labelled (part s start stop) (coil_at b i) d.asks.fits)
      by (Ok AllOff) d = off_every b k
      by (Err r) d = k

  pub after_every : (b : Board) (commands : List (List ℕ)) → Every P b → Every P (after b commands)
  unfolding after
  after_every b [] k = k
  after_every b (s ∷ commands) k = after_every (applied s b).board commands (applied_every s b k)

-- a list of one value reads that value everywhere
alike : {A : Type 0} (n j : ℕ) (a : A) → get_or (replicate n a) j a ≡ a
alike zero j a = refl
alike (suc n) zero a = refl
alike (suc n) (suc j) a = alike n j a

pub first_every : (P : Coil → Type 0) → P first_coil → Every P first_board
unfolding first_board
first_every P h = record { sixteen = length-replicate coil_count first_coil; coils = λ i. rw (alike coil_count i first_coil) h }

-- ---- what a label's unused places read

past-text : (n : ℕ) (t : List ℕ) (j : ℕ) → length t ≤ j → get_or (write (replicate n 0) 0 t) j 0 ≡ 0
unfolding write
past-text zero t j h = refl
past-text (suc n) [] j h = alike (suc n) j 0
past-text (suc n) (x ∷ t) zero h = absurd (omega arith)
past-text (suc n) (x ∷ t) (suc j) h = past-text n t j (omega arith)

first_clear : Clear first_coil
first_clear = record { fits = lit≤ tt; places = refl; unused = λ j h. alike longest_label j 0 }

clear_stays : Stays Clear
clear_stays = record {
  switched = λ v c k. record { fits = k.fits; places = k.places; unused = k.unused };
  labelled = λ t c h. record { fits = h; places = length-write (replicate longest_label 0) 0 t; unused = λ j k. past-text longest_label t j k };
}

pub unused-zero : UnusedZero
unused-zero commands = after_every Clear clear_stays first_board commands (first_every Clear first_clear)
