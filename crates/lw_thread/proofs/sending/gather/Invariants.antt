use Rattle.std.proofs.Common.{◌≡◌, ◌+◌, ◌≤◌, length, vec_capacity, All}
use Rattle.lw_base.specs.Letters.{FitsRing}
use Rattle.lw_ring.specs.Calls.{NamedFrom}
use Rattle.lw_thread.specs.Acts.{AllFit}
use Rattle.lw_thread.specs.Sending.{first_to}
use Rattle.lw_thread.specs.Posting.{Gathers}
use Rattle.lw_thread.proofs.sending.gather.Given as goal

-- so many were taken out and marked, and the rest goes there too
abbrev pub invariant-loop-place : goal.invariant-loop-place
invariant-loop-place g l = record {
  count : length l.run.items ≡ l.place;
  room : l.count ≤ vec_capacity l.run;
  left : l.count ≤ l.place + first_to l.to l.acts.pending;
  gathered : Gathers g.M.Tagged.letter g.M.Tagged.marked l.to l.links.thread l.first l.run.items l.fn.acts l.acts;
  names : NamedFrom g.M.Tagged.letter g.M.Tagged.tag_of l.links.thread l.first l.run.items;
  fits : All (FitsRing g.M.Tagged.fits l.to l.links.recv.family) l.run.items;
  others_fit : AllFit g.M.Tagged.fits l.links.recv.family l.acts.pending;
}
