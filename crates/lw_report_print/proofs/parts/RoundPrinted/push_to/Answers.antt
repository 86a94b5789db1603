use Rattle.std.proofs.Common.{◌∙◌, ◌∷◌, [], map, subst}
use Rattle.std.specs.List.{AllByRecursion}
use Rattle.std.proofs.lemmas.Result.{on_ok_weaker}
use Rattle.lw_model.specs.ReportText.{round_line, row_line, order_line}
use Rattle.lw_model.specs.Ranges.{OrderFits, RowFits}
use Rattle.lw_report_print.proofs.TextLemmas.{one, more}
use Rattle.lw_report_print.proofs.parts.RoundPrinted.push_to.Goals as goal

pub returns-clause-bytes : goal.returns-clause-bytes
returns-clause-bytes c =
    let r = c.args.self.now in
    let head = one _ _ (round_line r) c.in_ok-push_round_line.ensures.bytes in
    let rows = c.in_ok-push_all.ensures.bytes ∙ more row_line _ _ (round_line r ∷ []) r.rows _ head c.as_slice.ensures in
    on_ok_weaker c.push_all-2.result (λ e. e ∙ more order_line _ _ (round_line r ∷ map row_line r.rows) r.orders _ rows c.as_slice-2.ensures) c.push_all-2.ensures.bytes

pub returns-clause-range : goal.returns-clause-range
returns-clause-range c =
    let line = c.in_ok-push_round_line.ensures.range in
    let rows = subst (AllByRecursion RowFits) c.as_slice.ensures c.in_ok-push_all.ensures.range in
    on_ok_weaker c.push_all-2.result (λ orders. (line.0, line.1, rows, subst (AllByRecursion OrderFits) c.as_slice-2.ensures orders)) c.push_all-2.ensures.range
