-- Two logs compared that come in pieces: a step takes bytes of the pieces at hand, and says at most one entry. These are definitions: they
-- assume nothing.
use Rattle.std.specs.Prelude.{ℕ, ◌+◌, ◌-◌, ◌%◌, ◌^◌, min, Bool, false, cond, ◌&&◌, List, ◌++◌, length, take, replicate, ◌==◌, nat_eq, nat_le, slice_index}
use Rattle.keys.specs.Keys.{equal}
use Rattle.logs.specs.Logs.{claimed}
use Rattle.log_compare.specs.Partial.{UnderWay, is_none, takes, under_way}
use Rattle.log_compare.specs.declared.Entry.{Entry}
use Rattle.log_compare.specs.declared.Entry.TheVariants.{Both, First, Second}
use Rattle.std.specs.Prelude.{Option, None, Some}
use Rattle.log_compare.specs.declared.Comparing.{Comparing}
use Rattle.log_compare.specs.declared.Step.{Step}

-- ---- where a comparison stands: the record's number and its body's length, whether the bodies are still to be compared, and what is under way

pub record Standing : Type 0 where
  pub number : ℕ
  pub length : ℕ
  pub alike : Bool
  pub first : UnderWay
  pub second : UnderWay

abbrev pub fresh : Comparing
fresh = record {
  number = 0;
  length = 0;
  first = record { head = replicate 6 0; held = 0; left = 0 };
  second = record { head = replicate 6 0; held = 0; left = 0 };
  alike = 0;
}

-- where it then stands, the bytes taken of each piece, and what is said
pub record Stepped : Type 0 where
  pub state : Standing
  pub first : ℕ
  pub second : ℕ
  pub said : Option Entry

-- ---- a step, with the pieces a and b at hand

-- the bytes that a head lacks
abbrev pub lacks : UnderWay → ℕ
lacks u = 6 - length u.head

-- these bytes are taken of each log
unfoldable pub took : Standing → List ℕ → List ℕ → ℕ → ℕ → Bool → Option Entry → Stepped
took c x y number size alike said = record {
  state = record { number = number; length = size; alike = alike; first = takes c.first x; second = takes c.second y };
  first = length x;
  second = length y;
  said = said;
}

module _ (c : Standing) (a b : List ℕ) where
  -- j bytes of one piece and k of the other are taken
  unfoldable pub moved : ℕ → ℕ → Bool → ℕ → ℕ → Option Entry → Stepped
  moved number size alike j k said = record {
    state = record { number = number; length = size; alike = alike; first = takes c.first (take j a); second = takes c.second (take k b) };
    first = j;
    second = k;
    said = said;
  }

  -- what is at hand of the next heads, with what is held of them
  abbrev pub one : List ℕ
  one = c.first.head ++ a

  abbrev pub two : List ℕ
  two = c.second.head ++ b

  abbrev pub next_number : ℕ
  next_number = (c.number + 1) % 2 ^ 64

  -- both logs have the next record: kinds and lengths are compared
  unfoldable pub both_begin : Stepped
  both_begin =
      let e = (slice_index one 4 == slice_index two 4 && slice_index one 5 == slice_index two 5) && nat_eq (claimed 4 one) (claimed 4 two) in
      moved next_number (claimed 4 one) e (lacks c.first) (lacks c.second)
      (cond e None (Some (Both next_number (claimed 4 one) (claimed 4 two))))

  -- one of them alone has it
  unfoldable pub first_begins : Stepped
  first_begins = moved next_number (claimed 4 one) false (lacks c.first) 0 (Some (First next_number (claimed 4 one)))

  unfoldable pub second_begins : Stepped
  second_begins = moved next_number (claimed 4 two) false 0 (lacks c.second) (Some (Second next_number (claimed 4 two)))

  -- the next heads are not at hand yet: of each at most five bytes are held, so that the record begins with a byte that is taken
  unfoldable pub heads_wait : Stepped
  heads_wait =
      moved c.number c.length c.alike (min (5 - length c.first.head) (length a)) (min (5 - length c.second.head) (length b)) None

  -- both bodies go on: as many bytes are compared as are at hand of both
  unfoldable pub bodies_go_on : Stepped
  bodies_go_on =
      let k = min c.first.left (min (length a) (length b)) in
      let e = equal (take k a) (take k b) in
      moved c.number c.length e k k (cond e None (Some (Both c.number c.length c.length)))

  -- bodies that are known to differ, or one that is alone, are passed over
  unfoldable pub bodies_pass : Stepped
  bodies_pass = moved c.number c.length false (min c.first.left (length a)) (min c.second.left (length b)) None

-- no body is under way
unfoldable pub is_between : Standing → Bool
is_between c = c.first.left == 0 && c.second.left == 0

-- the bodies are still to be compared
unfoldable pub is_alike : Standing → Bool
is_alike c = c.alike && c.first.left == c.second.left

-- a log has nothing more: its last piece is at hand, and no byte of it, nor of a head
unfoldable pub is_over : Bool → List ℕ → Bool
is_over last s = last && length s == 0

unfoldable pub bodies_of : Standing → List ℕ → List ℕ → Stepped
bodies_of c a b = cond (is_alike c) (bodies_go_on c a b) (bodies_pass c a b)

-- aLast and bLast: nothing follows this piece
unfoldable pub heads_of : Standing → List ℕ → Bool → List ℕ → Bool → Stepped
heads_of c a aLast b bLast =
    cond (nat_le 6 (length (one c a b)) && nat_le 6 (length (two c a b))) (both_begin c a b)
    (cond (nat_le 6 (length (one c a b)) && is_over bLast (two c a b)) (first_begins c a b)
    (cond (is_over aLast (one c a b) && nat_le 6 (length (two c a b))) (second_begins c a b)
    (heads_wait c a b)))

unfoldable pub step_of : Standing → List ℕ → Bool → List ℕ → Bool → Stepped
step_of c a aLast b bLast = cond (is_between c) (heads_of c a aLast b bLast) (bodies_of c a b)

-- nothing is under way in either log
unfoldable pub is_end : Standing → Bool
is_end c = is_none c.first && is_none c.second

-- ---- what the code's structs stand for

unfoldable pub standing : Comparing → Standing
standing c = record { number = c.number; length = c.length; alike = (c.alike == 1); first = under_way c.first; second = under_way c.second }

unfoldable pub stepped : Step → Stepped
stepped r = record { state = standing r.state; first = r.first; second = r.second; said = r.said }
