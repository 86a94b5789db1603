use Rattle.std.proofs.Common.{Some, ◌≡◌, ℕ, ◌<◌, length, map}
use Rattle.std.specs.Prelude.{slice_index_or}
use Rattle.lw_thread.specs.Runs.{ring_of_recv}
use Rattle.lw_event.specs.Making.{AreNewRecvs, IsNewRow}
use Rattle.lw_event.proofs.making.rings.Given as goal

abbrev pub ghosts-open_ring_as : goal.ghosts-open_ring_as
ghosts-open_ring_as g a = record { number = a.number; family = Some g.run }

abbrev pub invariant-loop-number : goal.invariant-loop-number
invariant-loop-number g l =
    (length l.recvs.items ≡ l.number)
    × (length l.rows.items ≡ l.count)
    × AreNewRecvs g.run l.count l.recvs.items
    × ((k : ℕ) (e : _) → k < l.count → IsNewRow g.run (map ring_of_recv l.recvs.items) k (slice_index_or l.rows.items k e).items)
