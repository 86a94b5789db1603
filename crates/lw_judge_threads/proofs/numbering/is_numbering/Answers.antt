use Rattle.std.proofs.Common.{◌∙◌, ap, ◌==◌, count_by, rules, tests}
use Rattle.std.specs.List.{list_all, range_with_len}
use Rattle.std.proofs.Common.{length}
use Rattle.std.proofs.lemmas.Iterator.{YieldsList-from_slice}
use Rattle.std.proofs.lemmas.Iterator.Search.{all_from_yields_List}
use Rattle.std.proofs.lemmas.List.Folds.{list_all-map}
use Rattle.lw_judge_threads.proofs.numbering.is_numbering.Goals as goal

pub returns : goal.returns
returns c =
    all_from_yields_List (λ n. n == 1) _ _ c.all.result c.all.ensures.ran (YieldsList-from_slice c.in_ok-counts.counts.items cc) (λ x b q k. search (rules, tests))
    ∙ ap (list_all (λ n. n == 1)) c.in_ok-counts.ensures
    ∙ list_all-map (λ n. n == 1) (λ n. count_by (λ m. m == n) c.args.numbers.now) (range_with_len 0 (length c.args.numbers.now))
