-- The folds `if_bytes` and `if_map`: what they give for an item that a pattern did not match, and what holds of their result.
-- Assumes nothing.
use Rattle.std.specs.Prelude.{Option, None, Some}
use mathlib.Core.Path.{◌≡◌, refl}
use Prim.Native.Nat.{ℕ}
use Rattle.cbor.specs.declared.Item.{Item}
use Rattle.cbor.specs.declared.Item.TheVariants.{Unsigned, Negative, Bytes, Simple, Array, Map, Set}
use Rattle.cbor.specs.Cbor.{if_bytes, if_map}

module _ {A : Type 0} where
  pub not-bytes : (x : Option Item) → ((start stop : ℕ) → x ≡ Some (Bytes start stop) → ⊥) → (f : ℕ → ℕ → A) (d : A) → if_bytes x f d ≡ d
  not-bytes (Some (Unsigned n next)) h f d = refl
  not-bytes (Some (Negative n next)) h f d = refl
  not-bytes (Some (Bytes start next)) h f d = absurd (h start next refl)
  not-bytes (Some (Simple next)) h f d = refl
  not-bytes (Some (Array n at)) h f d = refl
  not-bytes (Some (Map n at)) h f d = refl
  not-bytes (Some (Set n at)) h f d = refl
  not-bytes None h f d = refl

  pub not-map : (x : Option Item) → ((n at : ℕ) → x ≡ Some (Map n at) → ⊥) → (f : ℕ → ℕ → A) (d : A) → if_map x f d ≡ d
  not-map (Some (Unsigned n next)) h f d = refl
  not-map (Some (Negative n next)) h f d = refl
  not-map (Some (Bytes start next)) h f d = refl
  not-map (Some (Simple next)) h f d = refl
  not-map (Some (Array n at)) h f d = refl
  not-map (Some (Map n at)) h f d = absurd (h n at refl)
  not-map (Some (Set n at)) h f d = refl
  not-map None h f d = refl

  -- what holds of f at a byte string, and of d, holds
  pub by_bytes : (P : A → Type 0) (x : Option Item) (f : ℕ → ℕ → A) (d : A) → ((start stop : ℕ) → x ≡ Some (Bytes start stop) → P (f start stop)) → P d → P (if_bytes x f d)
  by_bytes P (Some (Unsigned n next)) f d h k = k
  by_bytes P (Some (Negative n next)) f d h k = k
  by_bytes P (Some (Bytes start next)) f d h k = h start next refl
  by_bytes P (Some (Simple next)) f d h k = k
  by_bytes P (Some (Array n at)) f d h k = k
  by_bytes P (Some (Map n at)) f d h k = k
  by_bytes P (Some (Set n at)) f d h k = k
  by_bytes P None f d h k = k

  -- what holds of f at a map, and of d, holds
  pub by_map : (P : A → Type 0) (x : Option Item) (f : ℕ → ℕ → A) (d : A) → ((n at : ℕ) → x ≡ Some (Map n at) → P (f n at)) → P d → P (if_map x f d)
  by_map P (Some (Unsigned n next)) f d h k = k
  by_map P (Some (Negative n next)) f d h k = k
  by_map P (Some (Bytes start next)) f d h k = k
  by_map P (Some (Simple next)) f d h k = k
  by_map P (Some (Array n at)) f d h k = k
  by_map P (Some (Map n at)) f d h k = h n at refl
  by_map P (Some (Set n at)) f d h k = k
  by_map P None f d h k = k

  -- a function of a fold is a fold
  pub after-bytes : {B : Type 0} (h : A → B) (x : Option Item) (f : ℕ → ℕ → A) (d : A) (g : ℕ → ℕ → B) (c : B) → ((start stop : ℕ) → g start stop ≡ h (f start stop)) → c ≡ h d → if_bytes x g c ≡ h (if_bytes x f d)
  after-bytes h (Some (Unsigned n next)) f d g c e k = k
  after-bytes h (Some (Negative n next)) f d g c e k = k
  after-bytes h (Some (Bytes start next)) f d g c e k = e start next
  after-bytes h (Some (Simple next)) f d g c e k = k
  after-bytes h (Some (Array n at)) f d g c e k = k
  after-bytes h (Some (Map n at)) f d g c e k = k
  after-bytes h (Some (Set n at)) f d g c e k = k
  after-bytes h None f d g c e k = k
