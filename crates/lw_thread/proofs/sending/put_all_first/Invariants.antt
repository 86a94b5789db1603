use Rattle.std.proofs.Common.{◌≡◌, ◌<◌, ◌+◌, ◌++◌, List, length}
use Rattle.lw_thread.specs.Posting.{PutsFirst}
use Rattle.lw_thread.proofs.sending.put_all_first.Given as goal

-- the last of them stand first, and the others are still in the vector
abbrev pub invariant-loop : goal.invariant-loop
invariant-loop g l = record {
  put : List g.row.M.Denot;
  parts : l.fn.run.items ≡ l.run.items ++ put;
  turns : length l.run.items + l.counter ≡ length l.fn.run.items;
  first : PutsFirst g.M.Tagged.letter g.M.Tagged.marked g.M.Tagged.fits l.to put l.fn.acts l.acts;
  threads : l.to < l.acts.threads;
}
