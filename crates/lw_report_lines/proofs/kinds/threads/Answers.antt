use Rattle.std.proofs.Common.{sym, ap, ◌∙◌, ◌+◌, ◌-◌}
use Rattle.lw_base.specs.Words.{greatest_u32}
use Rattle.lw_report_lines.specs.LineParts.{spaced}
use Rattle.lw_report_lines.specs.LineKinds.{results}
use Rattle.lw_report_lines.proofs.Results.{prefixed, results_step, results_stop}
use Rattle.lw_report_lines.proofs.kinds.threads.Goals as goal

pub returns-in-None : goal.returns-in-None
returns-in-None c = sym (c.loop.invariant ∙ results_stop (spaced greatest_u32) c.args.count c.loop.counter c.loop.rest.now c.loop.items.items c.loop-test.true c.in-None.ensures)

pub loop-preserved : goal.loop-preserved
loop-preserved c =
    c.loop.invariant
    ∙ results_step (spaced greatest_u32) c.args.count c.loop.counter c.loop.rest.now c.in-Some.behind.now c.in-Some.item c.loop.items.items c.loop-test.true c.in-Some.ensures
    ∙ ap (λ q. prefixed q (results (spaced greatest_u32) (c.args.count - (c.loop.counter + 1)) c.in-Some.behind.now)) (sym c.in_ok-push-in-Some.ensures.items)
