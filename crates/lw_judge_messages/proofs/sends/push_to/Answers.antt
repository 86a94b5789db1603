use Rattle.std.proofs.Common.{◌≡◌, slice_get, Some, arith}
use Rattle.std.proofs.lemmas.List.{length-set}
use Rattle.std.proofs.lemmas.Option.{gets}
use Rattle.std.proofs.lemmas.Grind.{common_steps}
use Rattle.lw_judge_messages.proofs.Added.{items_at-put}
use Rattle.lw_judge_messages.proofs.sends.push_to.Goals as goal

pub returns-in_ok-push-in-Some : goal.returns-in_ok-push-in-Some
returns-in_ok-push-in-Some c =
    let vs = c.args.lists.now.items in
    let to = c.args.to in
    let found : slice_get vs to ≡ Some c.in-Some.list.now = grind (arith, common_steps, gets) in
    (length-set vs to c.push.new.self, λ u below. items_at-put vs to c.in-Some.list.now c.push.new.self c.args.what found c.in_ok-push-in-Some.ensures.items u)
