use Rattle.std.proofs.Common.{◌∙◌, sym, ap, refl, ◌++◌, ◌∷◌, [], codes, decimal, flat_map}
use Rattle.std.proofs.lemmas.Result.{on_ok_weaker}
use Rattle.lw_model.specs.ReportText.{result_words, seen_line}
use Rattle.lw_model.proofs.JoinedWords.{join-cons}
use Rattle.lw_report_print.proofs.TextLemmas.{after}
use Rattle.lw_report_print.proofs.parts.SeenPrinted.push_to.Goals as goal

pub returns-clause-bytes : goal.returns-clause-bytes
returns-clause-bytes c =
    let s = c.args.self.now in
    let head = codes "seen " ++ decimal s.op in
    let words = result_words s.results in
    let line = c.in_ok-push_results.ensures.bytes ∙ after _ _ head (flat_map (λ w. 32 ∷ w) words) (seen_line s) c.in_ok-push_seen_head.ensures (ap (λ t. codes "seen" ++ 32 ∷ t) (sym (join-cons (decimal s.op) words))) in
    on_ok_weaker c.writeln.result (λ e. e ∙ after _ _ (seen_line s) (10 ∷ []) (seen_line s ++ 10 ∷ []) line refl) c.writeln.ensures.bytes
