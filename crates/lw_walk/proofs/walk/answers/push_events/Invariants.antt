use Rattle.std.proofs.Common.{◌≡◌, ◌≤◌, ◌+◌, ◌++◌, ℕ, string_bytes, length}
use Rattle.std.specs.List.{filter_map}
use Rattle.lw_world.specs.Sums.{at}
use Rattle.lw_walk.specs.WalkForm.{bad_event, event_in}
use Rattle.lw_walk.specs.Walk.{answers}
use Rattle.lw_walk.proofs.walk.answers.push_events.Given as goal

abbrev pub invariant-loop-event : goal.invariant-loop-event
invariant-loop-event l = record {
  lines : bad_event l.fn.lines.line l.fn.lines.lines ≡ bad_event l.lines.line l.lines.lines;
  text : string_bytes l.out ++ answers l.world (l.number + 1) (filter_map event_in l.lines.lines) ≡ string_bytes l.fn.out ++ answers l.fn.world 1 (filter_map event_in l.fn.lines.lines);
  few : l.number + length l.lines.lines ≤ 16777216;
  sent : (s r : ℕ) → at l.world.sent s r ≤ l.number;
}

abbrev pub decreases-loop-event : goal.decreases-loop-event
decreases-loop-event l = length l.lines.lines
