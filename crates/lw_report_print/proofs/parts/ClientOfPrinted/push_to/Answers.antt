use Rattle.std.proofs.Common.{◌∙◌, sym, ap, subst, ◌++◌, ◌∷◌, [], flat_map}
use Rattle.std.specs.List.{AllByRecursion}
use Rattle.std.proofs.lemmas.Result.{on_ok_weaker}
use Rattle.lw_model.specs.ReportText.{client_line, op_line, text_of_lines, client_lines}
use Rattle.lw_model.specs.Ranges.{OpFits}
use Rattle.lw_report_print.proofs.TextLemmas.{after, text_of_lines-map}
use Rattle.lw_report_print.proofs.parts.ClientOfPrinted.push_to.Goals as goal

pub returns-clause-bytes : goal.returns-clause-bytes
returns-clause-bytes c =
    let client = c.args.self.now in
    let head = client_line client ++ 10 ∷ [] in
    on_ok_weaker c.push_all.result (λ e. e ∙ after _ _ head _ (text_of_lines (client_lines client)) c.in_ok-push_client_line.ensures.bytes (ap (λ xs. head ++ flat_map (λ o. op_line o ++ 10 ∷ []) xs) c.as_slice.ensures ∙ sym (ap (λ t. head ++ t) (text_of_lines-map op_line client.ops)))) c.push_all.ensures.bytes

pub returns-clause-range : goal.returns-clause-range
returns-clause-range c =
    let line = c.in_ok-push_client_line.ensures.range in
    on_ok_weaker c.push_all.result (λ ops. (line.0, subst (AllByRecursion OpFits) c.as_slice.ensures ops, line.1)) c.push_all.ensures.range
