use Rattle.std.proofs.Common.{◌≡◌, length}
use Rattle.lw_rounds.proofs.Noting.{NotedSoFar}
use Rattle.lw_rounds.proofs.balancer.note_stands.Given as goal

abbrev pub invariant-loop-row : goal.invariant-loop-row
invariant-loop-row l = record {
  count : length l.stands ≡ length l.initial.stands;
  noted : NotedSoFar l.row-index l.stands l.rows;
}
