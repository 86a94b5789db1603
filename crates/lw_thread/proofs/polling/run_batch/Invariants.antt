use Rattle.std.proofs.Common.{◌≡◌, ◌≤◌, ◌+◌, ◌++◌, List, length, map}
use Rattle.std.specs.Prelude.{IsTrue, ◌↔◌}
use Rattle.lw_thread.specs.Polls.{most_taken, RunsAll}
use Rattle.lw_thread.specs.Posting.{IsGoing, flow_tied}
use Rattle.lw_thread.proofs.polling.run_batch.Given as goal

-- some of the batch was run; the rest is no more than the turns that are left
abbrev pub invariant-loop : goal.invariant-loop
invariant-loop g l = record {
  going : IsGoing g.B.Message.Tagged.letter g.B.Message.Tagged.fits g.B.Body.lawful l.links l.acts l.body;
  run : List g.row.B-Message-Letter.Denot;
  parts : l.fn.links.left ≡ run ++ l.links.left;
  each : RunsAll g.B.Body.runs l.fn.now run (flow_tied l.fn.links l.fn.acts l.fn.body) (flow_tied l.links l.acts l.body);
  noted : l.links ≡ record l.fn.links { ran = l.fn.links.ran ++ map g.B.Message.Tagged.tag_of run; left = l.links.left };
  worked : IsTrue l.ran ↔ (1 ≤ length run);
  turns : length l.links.left + l.counter ≤ most_taken;
}
