use Rattle.std.proofs.Common.{◌==◌, not, count_by, ap, ◌∙◌}
use Rattle.std.specs.List.{list_any}
use Rattle.lw_model.specs.Threads.{clients}
use Rattle.lw_model.specs.Answers.{is_done_of}
use Rattle.lw_judge_answers.proofs.Finishing.{none_left}
use Rattle.lw_judge_answers.proofs.dones.Dones.are_all.Goals as goal

pub returns : goal.returns
returns c = λ s past was.
    ap (λ n. n == 0) (was.left ∙ ap (count_by not) was.each) ∙ none_left (λ k. list_any (is_done_of k) past) (clients s)
