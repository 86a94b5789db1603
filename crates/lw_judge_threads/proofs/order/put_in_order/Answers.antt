use Rattle.std.proofs.Common.{rules}
use Rattle.std.proofs.lemmas.List.Sorted.{answers_always, IsNonDecreasingBy-from_sort}
use Rattle.std.proofs.lemmas.Result.{on_ok_weaker}
use Rattle.lw_model.specs.OwnOrder.{at_of}
use Rattle.lw_judge_threads.proofs.InOrder.{in_order-from_sort}
use Rattle.lw_judge_threads.proofs.order.put_in_order.Goals as goal

pub returns : goal.returns
returns c =
    let keys = answers_always _ _ _ (λ f a r next called. search rules) in
    let stable = c.sort_by_key.ensures.stable at_of keys in
    on_ok_weaker c.sort_by_key.result
    (λ sorted. in_order-from_sort _ _ (IsNonDecreasingBy-from_sort at_of _ (sorted at_of keys)) stable)
    c.sort_by_key.ensures.sorted
