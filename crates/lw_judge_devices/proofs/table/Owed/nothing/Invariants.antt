use Rattle.std.proofs.Common.{◌≡◌, ◌+◌, length}
use Rattle.lw_judge_devices.proofs.NothingOwed.{AreEmpty}
use Rattle.lw_judge_devices.proofs.table.Owed.nothing.Given as goal

abbrev pub invariant-loop-client : goal.invariant-loop-client
invariant-loop-client l = record {
  count : length l.threads.items ≡ 1 + l.client-index;
  empty : AreEmpty l.script l.threads.items;
}
