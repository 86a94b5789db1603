use Rattle.std.proofs.Common.{◌∙◌, sym, ap, subst, ◌++◌, ◌∷◌, flat_map, decimal, string_bytes}
use Rattle.std.specs.List.{AllByRecursion}
use Rattle.std.proofs.lemmas.Result.{on_ok_weaker}
use Rattle.std.proofs.lemmas.List.Folds.{flat_map-map}
use Rattle.lw_model.specs.ReportText.{mark_word, result_words}
use Rattle.lw_model.specs.Ranges.{Fits32, MarkFits, SeenByFits}
use Rattle.lw_report_print.proofs.parts.push_results.Goals as goal

pub returns-in-Visit-clause-bytes : goal.returns-in-Visit-clause-bytes
returns-in-Visit-clause-bytes c =
    on_ok_weaker c.push_all.result (λ e. e ∙ ap (λ t. string_bytes c.args.out.now ++ t)
    (ap (flat_map (λ m. 32 ∷ mark_word m)) c.as_slice.ensures
    ∙ sym (flat_map-map (λ w. 32 ∷ w) mark_word _)
    ∙ sym (ap (λ r. flat_map (λ w. 32 ∷ w) (result_words r)) c.in-Visit.is))) c.push_all.ensures.bytes

pub returns-in-Cast-clause-bytes : goal.returns-in-Cast-clause-bytes
returns-in-Cast-clause-bytes c =
    on_ok_weaker c.push_all-in-Cast.result (λ e. e ∙ ap (λ t. string_bytes c.args.out.now ++ t)
    (ap (flat_map (λ n. 32 ∷ decimal n)) c.as_slice-in-Cast.ensures
    ∙ sym (flat_map-map (λ w. 32 ∷ w) decimal _)
    ∙ sym (ap (λ r. flat_map (λ w. 32 ∷ w) (result_words r)) c.in-Cast.is))) c.push_all-in-Cast.ensures.bytes

pub returns-in-Visit-clause-range : goal.returns-in-Visit-clause-range
returns-in-Visit-clause-range c =
    on_ok_weaker c.push_all.result (λ e. subst SeenByFits (sym c.in-Visit.is) (subst (AllByRecursion MarkFits) c.as_slice.ensures e)) c.push_all.ensures.range

pub returns-in-Cast-clause-range : goal.returns-in-Cast-clause-range
returns-in-Cast-clause-range c =
    on_ok_weaker c.push_all-in-Cast.result (λ e. subst SeenByFits (sym c.in-Cast.is) (subst (AllByRecursion Fits32) c.as_slice-in-Cast.ensures e)) c.push_all-in-Cast.ensures.range
