use Rattle.std.proofs.Common.{ap, sym, ◌∙◌, not, count_by, map, false}
use Rattle.std.specs.List.{range_with_len}
use Rattle.lw_judge_answers.proofs.Finishing.{none_done, all_left}
use Rattle.lw_judge_answers.proofs.dones.Dones.new.Goals as goal

pub returns : goal.returns
returns c = λ s few.
    let items = c.in_ok-vec.ensures.items_if_clones_equal (λ y is. is) in
    record {
      each = items ∙ none_done 1 c.args.clients ∙ ap (λ n. map (λ k. false) (range_with_len 1 n)) (sym few);
      left = all_left c.args.clients ∙ ap (count_by not) (sym items);
    }
