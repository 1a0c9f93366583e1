-- What is proved of fields, and of every layout made of them. These are definitions: they assume nothing.
use Rattle.std.specs.Prelude.{ℕ, ◌<◌, ◌≤◌, true, List, [], ◌∷◌, ◌++◌, ◌≡◌, length, take, get_or}
use Rattle.std.proofs.Math.Option.{some}
use Rattle.fields.specs.Fields.{Field, decode}

-- what a byte slice guarantees
pub record AreBytes (b : List ℕ) : Type 0 where
  pub byte : (i : ℕ) → get_or b i 0 < 256

abbrev pub AllFit : {A : Type 0} → (A → Type 0) → List A → Type 0
AllFit F [] = Unit {0}
AllFit F (x ∷ xs) = F x × AllFit F xs

-- ---- a field among others: what stands behind its bytes does not matter

pub record Lawful {A : Type 0} (f : Field A) (Fits : A → Type 0) : Type 0 where
  pub size : (a : A) → Fits a → length (f.put a) ≡ f.width
  pub back : (a : A) (r : List ℕ) → Fits a → f.get (f.put a ++ r) ≡ a
  pub passes : (a : A) (r : List ℕ) → Fits a → f.good (f.put a ++ r) ≡ true
  pub only : (b : List ℕ) → AreBytes b → f.width ≤ length b → f.good b ≡ true → f.put (f.get b) ≡ take f.width b

-- the same of any bytes, of which there are enough
pub record Local {A : Type 0} (f : Field A) : Type 0 where
  pub get : (b r : List ℕ) → f.width ≤ length b → f.get (b ++ r) ≡ f.get b
  pub good : (b r : List ℕ) → f.width ≤ length b → f.good (b ++ r) ≡ f.good b

-- ---- a field alone; each claim holds of every lawful field, under its name in proofs/FieldLaws.antt

-- every value that fits comes back
abbrev pub Back : {A : Type 0} → Field A → (A → Type 0) → Type 0
Back {A} f Fits = (x : A) → Fits x → decode f (f.put x) ≡ some x

-- bytes are decoded only if they are an encoding
abbrev pub Only : {A : Type 0} → Field A → Type 0
Only {A} f = (b : List ℕ) (x : A) → AreBytes b → decode f b ≡ some x → b ≡ f.put x
