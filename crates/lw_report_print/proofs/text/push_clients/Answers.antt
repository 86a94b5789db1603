use Rattle.std.proofs.Common.{◌∷◌, [], codes, refl, flat_map}
use Rattle.std.proofs.lemmas.Result.{on_ok_weaker}
use Rattle.lw_model.specs.ReportText.{line, count_of, client_lines}
use Rattle.lw_report_print.proofs.TextLemmas.{one, then, as_lines}
use Rattle.lw_report_print.proofs.text.push_clients.Goals as goal

pub returns-clause-bytes : goal.returns-clause-bytes
returns-clause-bytes c =
    let clients = c.args.clients.now in
    let first = line (codes "clients" ∷ count_of clients ∷ []) in
    let head = one _ _ first c.in_ok-push_number.ensures in
    on_ok_weaker c.push_all.result (λ e. then _ _ _ (first ∷ []) (flat_map client_lines clients) head (as_lines client_lines _ _ clients _ refl e)) c.push_all.ensures.bytes
