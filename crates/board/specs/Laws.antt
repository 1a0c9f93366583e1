-- What is proved beside the contracts, each claim under its name in proofs/BoardLaws.antt, and `Only` in proofs/Only.antt: which commands are
-- accepted, what a command leaves as it was, and what a label's unused places read. These are definitions: they assume nothing.
use Rattle.std.specs.Prelude.{ℕ, ◌<◌, ◌≤◌, ◌≡◌, List, [], ◌∷◌, Bool, false, Some, Ok, Err, pos, length, take, get_or}
use Rattle.keys.specs.Keys.{part, among}
use Rattle.cbor.specs.declared.Item.TheVariants.{Bytes}
use Rattle.command.specs.declared.LookupError.TheVariants.{Absent}
use Rattle.command.specs.Command.{checked, number_of}
use Rattle.command.specs.Lookup.{name_of, count_of, argument_at, integer_at}
use Rattle.board.specs.declared.Coil.{Coil}
use Rattle.board.specs.declared.Board.{Board}
use Rattle.board.specs.Commands.{set-name, label-name, off-name, coil-key, on-key, text-key, switch_item, coil_count, longest_label, on_argument, text_item}
use Rattle.board.specs.Board.{first_board, coil_at, applied, after}

-- ---- what a command says

-- each lookup of a key that is not one of these gives 6, the number of `Absent`
pub record Only (s : List ℕ) (keys : List (List ℕ)) : Type 0 where
  pub others : (key : List ℕ) → among keys key ≡ false → argument_at s key ≡ Err Absent

-- a command of this name with so many arguments
pub record Named (s word : List ℕ) (n : ℕ) : Type 0 where
  pub number : number_of (checked s) ≡ 0
  pub name : name_of s ≡ word
  pub count : count_of s ≡ n

-- `coil` is an integer from 0 to 15
pub record NamesCoil (s : List ℕ) (i : ℕ) : Type 0 where
  pub coil : integer_at s coil-key ≡ Ok (pos i)
  pub below : i < coil_count

-- `set` of coil i to v; `label` of coil i with the text t; `off`
pub record AsksSet (s : List ℕ) (i : ℕ) (v : Bool) : Type 0 where
  pub named : Named s set-name 2
  pub coil : NamesCoil s i
  pub on : on_argument s ≡ switch_item v

pub record AsksLabel (s : List ℕ) (i : ℕ) (t : List ℕ) : Type 0 where
  pub named : Named s label-name 2
  pub coil : NamesCoil s i
  pub start : ℕ
  pub stop : ℕ
  pub text : text_item s ≡ Some (Bytes start stop)
  pub content : part s start stop ≡ t
  pub fits : length t ≤ longest_label

abbrev pub AsksOff : List ℕ → Type 0
AsksOff s = Named s off-name 0

-- ---- what changes

-- the same switch; the same label
pub record SameSwitch (c d : Coil) : Type 0 where
  pub on : c.on ≡ d.on

pub record SameLabel (c d : Coil) : Type 0 where
  pub length : c.length ≡ d.length
  pub label : c.label ≡ d.label

-- every coil but the one at place i is as it was, and there are as many
pub record Others (b next : Board) (i : ℕ) : Type 0 where
  pub count : length next.coils ≡ length b.coils
  pub others : (j : ℕ) → (j ≡ i → ⊥) → coil_at next j ≡ coil_at b j

-- coil i is switched to v, and nothing else is changed
pub record Switched (b next : Board) (i : ℕ) (v : Bool) : Type 0 where
  pub switch : (coil_at next i).on ≡ v
  pub label : SameLabel (coil_at next i) (coil_at b i)
  pub rest : Others b next i

-- coil i is labelled t, and nothing else is changed
pub record Labelled (b next : Board) (i : ℕ) (t : List ℕ) : Type 0 where
  pub used : (coil_at next i).length ≡ length t
  pub label : take (length t) (coil_at next i).label ≡ t
  pub switch : SameSwitch (coil_at next i) (coil_at b i)
  pub rest : Others b next i

-- every coil is off, and nothing else is changed
pub record AllOff (b next : Board) : Type 0 where
  pub count : length next.coils ≡ length b.coils
  pub switches : (i : ℕ) → (coil_at next i).on ≡ false
  pub labels : (i : ℕ) → SameLabel (coil_at next i) (coil_at b i)

-- ---- the claims

-- a refused command leaves the whole board as it was
abbrev pub RefusedKeeps : Type 0
RefusedKeeps = (s : List ℕ) (b : Board) → ((applied s b).number ≡ 0 → ⊥) → (applied s b).board ≡ b

-- An accepted command asks for one of the three, with no argument but those that it takes, and just that is done. A board has sixteen coils,
-- as its type says.
pub data Done (s : List ℕ) (b next : Board) : Type 0 where
  set : (i : ℕ) (v : Bool) → AsksSet s i v → Only s (coil-key ∷ on-key ∷ []) → Switched b next i v → Done s b next
  label : (i : ℕ) (t : List ℕ) → AsksLabel s i t → Only s (coil-key ∷ text-key ∷ []) → Labelled b next i t → Done s b next
  off : AsksOff s → Only s [] → AllOff b next → Done s b next

abbrev pub AcceptedDoes : Type 0
AcceptedDoes = (s : List ℕ) (b : Board) → length b.coils ≡ coil_count → (applied s b).number ≡ 0 → Done s b (applied s b).board

-- what asks for one of the three is accepted
pub record Accepts (s : List ℕ) (b : Board) : Type 0 where
  pub set : (i : ℕ) (v : Bool) → AsksSet s i v → (applied s b).number ≡ 0
  pub label : (i : ℕ) (t : List ℕ) → AsksLabel s i t → (applied s b).number ≡ 0
  pub off : AsksOff s → (applied s b).number ≡ 0

abbrev pub AskedAccepted : Type 0
AskedAccepted = (s : List ℕ) (b : Board) → Accepts s b

-- a label has sixteen places, of which those past its length read 0
pub record Clear (c : Coil) : Type 0 where
  pub fits : c.length ≤ longest_label
  pub places : length c.label ≡ longest_label
  pub unused : (j : ℕ) → c.length ≤ j → get_or c.label j 0 ≡ 0

-- sixteen coils, and something of each
pub record Every (P : Coil → Type 0) (b : Board) : Type 0 where
  pub sixteen : length b.coils ≡ coil_count
  pub coils : (i : ℕ) → P (coil_at b i)

-- from the first board, after every list of commands
abbrev pub UnusedZero : Type 0
UnusedZero = (commands : List (List ℕ)) → Every Clear (after first_board commands)
