-- Values laid out in bytes. A field has a width, the bytes of each value, the value of each bytes, and which bytes are a value's; fields are
-- made of fields, so that a layout is a line for each. These are definitions: they assume nothing.
use Rattle.std.specs.Prelude.{ℕ, zero, suc, ◌+◌, ◌*◌, ◌/◌, ◌%◌, Bool, true, cond, ◌&&◌, List, [], ◌∷◌, ◌++◌, length, take, drop, get_or, ltb, eqb}
use Rattle.std.proofs.Math.Option.{Option, some, none}
use mir.Val.{bool_byte}
use Rattle.std.specs.declared.option.Option as answer
use Rattle.std.specs.declared.option.Option.TheVariants.{None, Some}

-- what the code's Option says
unfoldable pub read : {A : Type 0} → answer.Option A → Option A
read None = none
read (Some x) = some x

-- `get` and `good` look at the first `width` bytes; what is behind them does not matter
pub record Field (A : Type 0) : Type 0 where
  pub width : ℕ
  pub put : A → List ℕ
  pub get : List ℕ → A
  pub good : List ℕ → Bool

-- ---- a number in w bytes, little-endian

abbrev pub bytes_of : ℕ → ℕ → List ℕ
bytes_of zero n = []
bytes_of (suc w) n = n % 256 ∷ bytes_of w (n / 256)

-- from place i on
abbrev pub little : ℕ → ℕ → List ℕ → ℕ
little zero i b = 0
little (suc w) i b = get_or b i 0 + 256 * little w (suc i) b

abbrev pub number : ℕ → Field ℕ
number w = record { width = w; put = bytes_of w; get = little w 0; good = λ b. true }

-- ---- one of some cases, by its code in one byte

abbrev pub choice : {A : Type 0} → ℕ → (A → ℕ) → (ℕ → A) → Field A
choice count code of = record { width = 1; put = λ a. code a ∷ []; get = λ b. of (get_or b 0 0); good = λ b. ltb (get_or b 0 0) count }

-- 1 for true
abbrev pub flag : Field Bool
flag = choice 2 bool_byte (λ n. eqb n 1)

-- a number below n, which is 256 or less
abbrev pub below : ℕ → Field ℕ
below n = choice n (λ x. x % 256) (λ x. x)

-- ---- n bytes as they are

abbrev pub bytes : ℕ → Field (List ℕ)
bytes n = record { width = n; put = λ l. l; get = take n; good = λ b. true }

-- ---- one field behind another, a field n times, and a field whose values stand for others

abbrev pub both : {A B : Type 0} → Field A → Field B → Field (A × B)
both f g = record {
  width = f.width + g.width;
  put = λ t. f.put t.0 ++ g.put t.1;
  get = λ b. (f.get b, g.get (drop f.width b));
  good = λ b. f.good b && g.good (drop f.width b);
}

unfoldable pub padded : {A : Type 0} → A → ℕ → List A → List A
padded d zero l = []
padded d (suc n) [] = d ∷ padded d n []
padded d (suc n) (x ∷ xs) = x ∷ padded d n xs

module _ {A : Type 0} (f : Field A) where
  unfoldable pub put_all : List A → List ℕ
  put_all [] = []
  put_all (x ∷ xs) = f.put x ++ put_all xs

  unfoldable pub get_all : ℕ → List ℕ → List A
  get_all zero b = []
  get_all (suc n) b = f.get b ∷ get_all n (drop f.width b)

  unfoldable pub good_all : ℕ → List ℕ → Bool
  good_all zero b = true
  good_all (suc n) b = f.good b && good_all n (drop f.width b)

  abbrev pub many : ℕ → Field (List A)
  many n = record { width = n * f.width; put = put_all; get = get_all n; good = good_all n }

  abbrev pub standing : {B : Type 0} → (B → A) → (A → B) → Field B
  standing to of = record { width = f.width; put = λ x. f.put (to x); get = λ b. of (f.get b); good = f.good }

  -- the first n of the values that stand in bytes one behind another; this value where there are fewer
  unfoldable pub row_from : A → ℕ → List ℕ → List A
  row_from d n b = padded d n (get_all (length b / f.width) b)

  -- ---- a field alone: which bytes are a value's, and the value of those that are

  abbrev pub is_value : List ℕ → Bool
  is_value b = eqb (length b) f.width && f.good b

  abbrev pub decode : List ℕ → Option A
  decode b = cond (is_value b) (some (f.get b)) none

  -- what code answers for bytes of any length: a value to fall back on where there are more or fewer of them, and then they stay as they are
  abbrev pub value_from : A → List ℕ → A
  value_from d b = cond (eqb (length b) f.width) (f.get b) d

  abbrev pub value_into : List ℕ → A → List ℕ
  value_into b x = cond (eqb (length b) f.width) (f.put x) b
