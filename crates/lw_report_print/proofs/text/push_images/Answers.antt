use Rattle.std.proofs.Common.{◌∙◌, ◌∷◌, [], codes, refl}
use Rattle.std.proofs.lemmas.Result.{on_ok_weaker}
use Rattle.lw_model.specs.ReportText.{line, count_of, image_line}
use Rattle.lw_report_print.proofs.TextLemmas.{one, more}
use Rattle.lw_report_print.proofs.text.push_images.Goals as goal

pub returns-clause-bytes : goal.returns-clause-bytes
returns-clause-bytes c =
    let images = c.args.images.now in
    let first = line (codes "images" ∷ count_of images ∷ []) in
    let head = one _ _ first c.in_ok-push_number.ensures in
    on_ok_weaker c.push_all.result (λ e. e ∙ more image_line _ _ (first ∷ []) images _ head refl) c.push_all.ensures.bytes
