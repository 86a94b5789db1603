use Rattle.std.proofs.Common.{◌≡◌, ◌<◌, ◌≤◌, ℕ, length}
use Rattle.std.specs.Prelude.{slice_index_or}
use Rattle.lw_thread.specs.Acts.{Post}
use Rattle.lw_thread.proofs.acts.Acts.neighbours.Given as goal

-- all before this place go there, and no more were looked at than may be
abbrev pub invariant-loop-place : goal.invariant-loop-place
invariant-loop-place g l = (l.place ≤ length l.self.pending) × (l.place ≤ l.most) × ((j : ℕ) (d : Post g.row.M.Denot) → j < l.place → (slice_index_or l.self.pending j d).to ≡ l.to)
