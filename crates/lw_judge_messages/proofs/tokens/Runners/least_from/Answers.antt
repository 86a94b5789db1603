use Rattle.std.proofs.Common.{rules, of_calls, ◌∙◌, ◌≡◌, ap, sym, subst, filter, slice_get, nat_le, nat_lt, arith}
use Rattle.std.specs.Option.{option_copied}
use Rattle.std.specs.List.Sorted.{IsNonDecreasingBy}
use Rattle.std.proofs.lemmas.Fn.{always_returns_same}
use Rattle.std.proofs.lemmas.Option.{gets}
use Rattle.std.proofs.lemmas.Grind.{common_steps}
use Rattle.std.proofs.lemmas.List.Sorted.{IsPartitionedBy-ltb}
use Rattle.lw_model.specs.Sent.{runners}
use Rattle.lw_model.specs.Lawful.{has_run}
use Rattle.lw_model.specs.Threads.{thread_count}
use Rattle.lw_judge_messages.specs.Tokens.{what_of}
use Rattle.lw_judge_messages.proofs.RunnerLists.{first_from, rising-filter_range}
use Rattle.lw_judge_messages.proofs.tokens.Runners.least_from.Goals as goal

pub returns : goal.returns
returns c = λ r are.
    let xs = c.of-threads.result.now in
    let got : option_copied c.get.result ≡ slice_get xs c.partition_point-place.result = grind (arith, common_steps, gets) in
    let same : xs ≡ runners r (what_of c.args.token.now) = c.of-threads.ensures ∙ are.each c.args.token.now in
    let rising = subst (IsNonDecreasingBy (λ x. x)) (sym same) (rising-filter_range (has_run r (what_of c.args.token.now)) (thread_count r.script)) in
    let point = c.partition_point-place.ensures.partitioned (λ x. nat_lt x c.args.least) (always_returns_same _ _ _ (λ a r f called. search (rules, of_calls))) (IsPartitionedBy-ltb (λ x. x) xs c.args.least rising) in
    c.copied.ensures ∙ got ∙ first_from c.args.least xs c.partition_point-place.result point ∙ ap (λ us. slice_get (filter (nat_le c.args.least) us) 0) same
