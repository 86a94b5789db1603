use Rattle.std.proofs.Common.{◌∷◌, [], codes, decimal, arith}
use Rattle.std.proofs.lemmas.Result.{on_ok_weaker}
use Rattle.lw_model.specs.ReportText.{line, scheduler_word}
use Rattle.lw_report_print.proofs.TextLemmas.{one, then, then_of}
use Rattle.lw_report_print.proofs.text.push_head.Goals as goal

pub returns-clause-bytes : goal.returns-clause-bytes
returns-clause-bytes c =
    let r = c.args.of.now in
    let l1 = codes "lightrun report 1" in
    let l2 = line (codes "scheduler" ∷ scheduler_word r.scheduler ∷ []) in
    let l3 = line (codes "reactors" ∷ decimal r.reactors ∷ []) in
    let l4 = line (codes "period" ∷ decimal r.period ∷ []) in
    let l5 = line (codes "pool" ∷ decimal r.script.small ∷ decimal r.script.large ∷ []) in
    let s1 = one _ _ l1 c.in_ok-push_line.ensures in
    let s2 = then_of (λ w. line (codes "scheduler" ∷ w ∷ []) ∷ []) _ _ _ (l1 ∷ []) (scheduler_word r.scheduler) _ c.scheduler_text.ensures s1 (one _ _ (line (codes "scheduler" ∷ c.scheduler_text.result.now ∷ [])) c.in_ok-push_word.ensures) in
    let s3 = then _ _ _ (l1 ∷ l2 ∷ []) (l3 ∷ []) s2 (one _ _ l3 c.in_ok-push_number.ensures) in
    let s4 = then _ _ _ (l1 ∷ l2 ∷ l3 ∷ []) (l4 ∷ []) s3 (one _ _ l4 c.in_ok-push_number-2.ensures) in
    on_ok_weaker c.push_pair.result (λ e. then _ _ _ (l1 ∷ l2 ∷ l3 ∷ l4 ∷ []) (l5 ∷ []) s4 (one _ _ l5 e)) c.push_pair.ensures

pub returns-clause-range : goal.returns-clause-range
returns-clause-range c = on_ok_weaker c.push_pair.result (λ e. (omega arith, omega arith, omega arith, omega arith)) c.push_pair.ensures
