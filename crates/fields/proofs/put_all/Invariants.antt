-- The first i rows are the bytes of the first i values.
use Rattle.std.proofs.Common.{ℕ, ◌≡◌, ◌<◌, length, get_or, map, []}
use Rattle.fields.proofs.put_all.Given as goal

abbrev pub invariant-loop-i : goal.invariant-loop-i
invariant-loop-i g l = record {
  long : length l.rows ≡ g.row.N;
  all : length l.values ≡ g.row.N;
  put : (k : ℕ) → k < l.i → get_or l.rows k [] ≡ get_or (map g.F.Field.field.put l.values) k [];
}
