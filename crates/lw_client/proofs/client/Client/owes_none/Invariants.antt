use Rattle.std.proofs.Common.{◌≡◌, ℕ, ◌<◌, false}
use Rattle.std.specs.Prelude.{slice_index_or}
use Rattle.lw_client.specs.declared.client.Use.{Use}
use Rattle.lw_client.proofs.client.Client.owes_none.Given as goal

abbrev pub invariant-loop-image : goal.invariant-loop-image
invariant-loop-image l = (k : ℕ) (d : Use) → k < l.image → (slice_index_or l.self.uses k d).owes ≡ false
