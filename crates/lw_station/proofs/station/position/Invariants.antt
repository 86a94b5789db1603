use Rattle.std.proofs.Common.{◌≢◌, ℕ, ◌<◌}
use Rattle.std.specs.Prelude.{slice_index_or}
use Rattle.lw_thread.specs.Threads.{Thread}
use Rattle.lw_station.proofs.station.position.Given as goal

-- none of those before is it
abbrev pub invariant-loop-at : goal.invariant-loop-at
invariant-loop-at g l = (k : ℕ) (d : Thread g.row.B-Message-Letter.Denot g.row.B-Message-Family.Denot g.row.B-Message.Denot g.row.B.Denot) → k < l.at → (slice_index_or l.threads k d).seat.thread ≢ l.number
