use Rattle.std.proofs.Common.{◌≡◌, ◌++◌, string_bytes, flat_map, take}
use Rattle.std.specs.List.{AllByRecursion, enumerate_from}
use Rattle.lw_model.specs.Ranges.{ThreadFits}
use Rattle.lw_model.specs.ReportText.{thread_lines, text_of_lines}
use Rattle.lw_report_print.proofs.threads.push_threads.Given as goal

-- the threads so far stand behind what there was, and fit
abbrev pub invariant-loop-number : goal.invariant-loop-number
invariant-loop-number l = record {
  bytes : string_bytes l.out ≡ string_bytes l.initial.out ++ flat_map (λ p. text_of_lines (thread_lines p.0 p.1)) (enumerate_from 0 (take l.number l.threads));
  range : AllByRecursion ThreadFits (take l.number l.threads);
}
