-- The first i values are those of the bytes, and the others the one to fall back on.
use Rattle.std.proofs.Common.{ℕ, ◌≡◌, ◌<◌, ◌≤◌, length, get_or, map}
use Rattle.fields.proofs.get_all.Given as goal

abbrev pub invariant-loop-i : goal.invariant-loop-i
invariant-loop-i g l = record {
  long : length l.values ≡ g.row.N;
  few : length l.rows ≤ g.row.N;
  read : (k : ℕ) → k < l.i → get_or l.values k l.fn.d ≡ get_or (map g.F.Field.field.get l.rows) k l.fn.d;
  kept : (k : ℕ) → k < g.row.N → l.i ≤ k → get_or l.values k l.fn.d ≡ l.fn.d;
}
