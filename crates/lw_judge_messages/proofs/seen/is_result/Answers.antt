use Rattle.std.proofs.Common.{ap, ◌∙◌}
use lib.Pointwise.{pointwise}
use Rattle.lw_model.specs.Same.{is_same_mark}
use Rattle.lw_judge_messages.proofs.VisitResults.{visited_like}
use Rattle.lw_judge_messages.proofs.seen.is_result.Goals as goal

pub returns-then-op-line : goal.returns-then-op-line
returns-then-op-line c = λ runners marks.
    c.eq.ensures ∙ ap (pointwise is_same_mark c.found_by.result.now) c.as_slice.ensures
    ∙ visited_like c.args.of.now c.args.client c.in-Visited-Visit.op c.args.tag.now c.args.line.now c.in-Visited-Visit.found c.found_by.result.now c.in-Visited-Visit.is-0 c.in-Visited-Visit.is-1 c.if-op-line.true (c.found_by.ensures marks)
