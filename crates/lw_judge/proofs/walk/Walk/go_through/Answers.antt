use Rattle.std.proofs.Common.{sym, subst, ◌∙◌, arith}
use Rattle.std.proofs.lemmas.Option.{slice_get_within}
use Rattle.std.specs.List.{AllByRecursion}
use Rattle.lw_model.specs.OwnOrder.{own_order}
use Rattle.lw_model.proofs.Printed.{parts}
use Rattle.lw_judge_threads.specs.LinesOf.{IsPlaced}
use Rattle.lw_judge_threads.proofs.Threads.{listed}
use Rattle.lw_judge_threads.proofs.ThreadCounts.{few_threads}
use Rattle.lw_judge.proofs.WalkSteps.{placed}
use Rattle.lw_judge.proofs.walk.Walk.go_through.Goals as goal

pub go_along-requires-clause-within : goal.go_along-requires-clause-within
go_along-requires-clause-within c = omega (arith, slice_get_within c.args.of.now.threads c.args.thread c.args.told.now c.requires.told, (parts c.args.of.now).threads, few_threads c.args.of.now)

pub go_along-requires-clause-few : goal.go_along-requires-clause-few
go_along-requires-clause-few c = omega (arith, c.as_slice.type_inv.1)

pub go_along-requires-clause-steps : goal.go_along-requires-clause-steps
go_along-requires-clause-steps c = c.as_slice.ensures.value ∙ c.in_ok-steps.ensures ∙ sym (listed own_order c.args.of.now c.args.thread c.args.told.now c.requires.told)

pub go_along-requires-clause-placed : goal.go_along-requires-clause-placed
go_along-requires-clause-placed c =
    let r = c.args.of.now in
    let t = c.args.thread in
    subst (AllByRecursion (IsPlaced r t)) (sym (c.as_slice.ensures.value ∙ c.in_ok-steps.ensures)) (placed r t c.args.told.now c.requires.told)
