-- `receive::diagnostic::Walk::step`: the position after a scalar or a container's head lies ahead of the item's. Assumes nothing.
use Rattle.std.proofs.Common.{◌≡◌, ℕ, ◌+◌, ◌-◌, ◌<◌, ◌≤◌, List, length, Option, None, Some, OnSome, sym, ap, ◌∙◌, subst, arith}
use Rattle.arrayvec.specs.ArrayVec.{array_vec_len}
use Rattle.cbor.specs.declared.Item.{Item}
use Rattle.cbor.specs.Cbor.{item_at, scalar_of, key}
use Rattle.cbor.proofs.Ahead.{Item-ahead, item-ahead, key-moves, nearer}
use Rattle.receive.specs.declared.diagnostic.Walk.{Walk}
use Rattle.receive.specs.Nearer.{distance}
use Rattle.receive.proofs.diagnostic.Walk.step.Goals as goal

module _ (s : List ℕ) (at : ℕ) {o : Option Item} {x y : Item} (read : o ≡ item_at s at) (some : o ≡ Some x) (is : x ≡ y) where
  ahead : Item-ahead s at (Some y)
  ahead = subst (Item-ahead s at) (sym read ∙ some ∙ ap Some is) (item-ahead s at)

-- a container that is entered
entered : (s : List ℕ) (w r : Walk) (p : ℕ) {A : Type 0} (o : Option A) → (w.at < p) × (p ≤ length s)
    → OnSome o ((r.at ≡ p) × (array_vec_len r.outer ≡ array_vec_len w.outer + 1)) → OnSome o (distance (length s) r < distance (length s) w)
entered s w r p None a h = tt
entered s w r p (Some x) a h = omega (arith, a.0, a.1, h.0, h.1)

past : (s : List ℕ) (at q : ℕ) {x : Option Item} {y : Option ℕ} → x ≡ item_at s at → y ≡ scalar_of x → y ≡ Some q → length s - q < length s - at
unfolding key
past s at q e f g =
    let same : key s at ≡ Some q = rw (← e) (sym f ∙ g) in
    nearer s (key-moves s) at q same

pub returns-in-Array : goal.returns-in-Array
returns-in-Array c =
    let s = c.args.s.now in
    let w = c.args.self.now in
    entered s w c.enter.new.self c.in-Array.next c.enter.result (ahead s w.at c.read_item-x.ensures c.in_ok-scalar.was c.in-Array.is) c.enter.ensures

pub returns-in-Set : goal.returns-in-Set
returns-in-Set c =
    let s = c.args.s.now in
    let w = c.args.self.now in
    entered s w c.enter-in-Set.new.self c.in-Set.next c.enter-in-Set.result (ahead s w.at c.read_item-x.ensures c.in_ok-scalar.was c.in-Set.is) c.enter-in-Set.ensures

pub returns-in-Map : goal.returns-in-Map
returns-in-Map c =
    let s = c.args.s.now in
    let w = c.args.self.now in
    entered s w c.enter-in-Map.new.self c.in-Map.next c.enter-in-Map.result (ahead s w.at c.read_item-x.ensures c.in_ok-scalar.was c.in-Map.is) c.enter-in-Map.ensures

pub returns-in_ok-self-in_default : goal.returns-in_ok-self-in_default
returns-in_ok-self-in_default c =
    let s = c.args.s.now in
    let p = c.in_ok-self-in_default in
    let h = past s c.args.self.now.at p.field-0 c.read_item-x.ensures c.scalar.ensures p.was in
    omega (arith, h)
