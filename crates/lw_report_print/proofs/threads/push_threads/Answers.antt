use Rattle.std.proofs.Common.{◌∙◌, sym, ap, subst, ◌++◌, flat_map, take, arith}
use Rattle.std.specs.List.{enumerate_from}
use Rattle.lw_model.specs.ReportText.{thread_lines, text_of_lines}
use Rattle.lw_model.specs.Ranges.{ThreadFits}
use Rattle.lw_report_print.proofs.TextLemmas.{after, all_more, all_taken, numbered-more}
use Rattle.lw_report_print.proofs.threads.push_threads.Goals as goal

pub loop-number-preserved : goal.loop-number-preserved
loop-number-preserved c =
    let i = c.loop-number.number in
    let threads = c.args.threads.now in
    let thread = c.index-threads-number.result in
    let earlier = flat_map (λ p. text_of_lines (thread_lines p.0 p.1)) (enumerate_from 0 (take i threads)) in
    record {
      bytes = c.in_ok-push_thread.ensures.bytes ∙ after _ _ earlier (text_of_lines (thread_lines i thread)) _ c.loop-number.invariant.bytes
          (ap (λ t. earlier ++ text_of_lines (thread_lines i t)) c.index-threads-number.is
          ∙ sym (numbered-more (λ p. text_of_lines (thread_lines p.0 p.1)) threads i thread c.loop-number-test.true));
      range = all_more ThreadFits threads i thread c.loop-number-test.true c.loop-number.invariant.range (subst ThreadFits c.index-threads-number.is c.in_ok-push_thread.ensures.range);
    }

pub returns-clause-range : goal.returns-clause-range
returns-clause-range c = all_taken ThreadFits c.args.threads.now c.loop-number.number (omega (arith, c.loop-number-test.false)) c.loop-number.invariant.range
