use Rattle.std.proofs.Common.{◌≡◌, ◌<◌, ◌≤◌, ℕ, true}
use Rattle.std.specs.Prelude.{slice_index_or}
use Rattle.lw_poller.specs.declared.poller.Active.{Active}
use Rattle.lw_poller.proofs.places.awake_place.Given as goal

abbrev pub invariant-loop-place : goal.invariant-loop-place
invariant-loop-place l = (k : ℕ) (d : Active) → l.turn ≤ k → k < l.place → (slice_index_or l.pollers k d).paused ≡ true
