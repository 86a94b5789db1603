use Rattle.std.proofs.Common.{◌≡◌, ◌+◌, ◌++◌, List, length}
use Rattle.lw_thread.proofs.acts.put_before.Given as goal

-- those that were moved stand before the rest, and the others are still in the first queue
abbrev pub invariant-loop : goal.invariant-loop
invariant-loop g l = record {
  moved : List g.row.T.Denot;
  parts : l.first.items ++ moved ≡ l.fn.first.items;
  put : l.rest.items ≡ moved ++ l.fn.rest.items;
  left : length l.first.items + l.counter ≡ length l.fn.first.items;
}
