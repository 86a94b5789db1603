use Rattle.std.proofs.Common.{sym, ap, ◌∙◌}
use Rattle.lw_model.specs.declared.record.SeenBy.TheVariants as by
use Rattle.lw_judge_messages.proofs.VisitResults.{visit_found}
use Rattle.lw_judge_messages.proofs.seen.found_by.Goals as goal

pub returns-in-Some : goal.returns-in-Some
returns-in-Some c = λ are. ap by.Visit c.of.ensures ∙ visit_found c.args.of.now c.args.marks.now c.args.client c.args.op c.in-Some.device are (sym c.in-Some.ensures)
