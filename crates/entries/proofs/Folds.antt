-- What is known of an entry that a pattern did not match: that its key is no byte string. And of an item whose key is none.
-- Assumes nothing.
use Rattle.std.specs.Prelude.{Option, None, Some}
use mathlib.Core.Path.{◌≡◌, refl}
use Prim.Native.Nat.{ℕ}
use Rattle.cbor.specs.declared.Item.{Item}
use Rattle.cbor.specs.declared.Item.TheVariants.{Unsigned, Negative, Bytes, Simple, Array, Map, Set}
use Rattle.cbor.specs.Cbor.{Reader, and_then, scalar_of}
use Rattle.entries.specs.declared.Entry.{Entry}
use Rattle.entries.specs.declared.Entry.TheVariants.{Keyed, Other}
use Rattle.entries.specs.Entries.{if_keyed, if_read, other, entry_of}

pub not-keyed : {A : Type 0} (e : Entry) → ((start stop next : ℕ) → e ≡ Keyed start stop next → ⊥) → (f : ℕ → ℕ → ℕ → A) (d : A) → if_keyed e f d ≡ d
not-keyed (Keyed start stop next) h f d = absurd (h start stop next refl)
not-keyed (Other next) h f d = refl

-- the same of what was read
pub not-read : {A : Type 0} (o : Option Entry) → ((start stop next : ℕ) → o ≡ Some (Keyed start stop next) → ⊥) → (f : ℕ → ℕ → ℕ → A) (d : A) → if_read o f d ≡ d
not-read None h f d = refl
not-read (Some (Keyed start stop next)) h f d = absurd (h start stop next refl)
not-read (Some (Other next)) h f d = refl

pub other-entry : (r : Reader) (x : Option Item) → ((start stop : ℕ) → x ≡ Some (Bytes start stop) → ⊥) → entry_of r x ≡ other (and_then (scalar_of x) r)
other-entry r (Some (Unsigned n next)) h = refl
other-entry r (Some (Negative n next)) h = refl
other-entry r (Some (Bytes start next)) h = absurd (h start next refl)
other-entry r (Some (Simple next)) h = refl
other-entry r (Some (Array n at)) h = refl
other-entry r (Some (Map n at)) h = refl
other-entry r (Some (Set n at)) h = refl
other-entry r None h = refl
