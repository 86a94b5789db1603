use Rattle.std.proofs.Common.{◌≡◌, length, []}
use Rattle.std.specs.Prelude.{All}
use Rattle.lw_event.proofs.rows.empty.Given as goal

abbrev pub invariant-loop-made : goal.invariant-loop-made
invariant-loop-made g l = (length l.rows.items ≡ l.made) × All (λ r. r.items ≡ []) l.rows.items
