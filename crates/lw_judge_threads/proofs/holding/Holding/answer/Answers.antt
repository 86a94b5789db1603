use Rattle.std.proofs.Common.{refl, ◌≡◌, slice_get, Some, arith}
use Rattle.std.specs.Vec.{with_item}
use Rattle.std.proofs.lemmas.Option.{slice_get_past, gets}
use Rattle.std.proofs.lemmas.Grind.{common_steps}
use Rattle.lw_judge_threads.proofs.HoldingSteps.{answered, answered_none}
use Rattle.lw_judge_threads.proofs.holding.Holding.answer.Goals as goal

pub returns-in-Some : goal.returns-in-Some
returns-in-Some c =
    let old = c.args.self.now in
    let stood : slice_get old.channels.items c.args.device ≡ Some c.in-Some.channel.now = grind (arith, common_steps, gets) in
    answered c.args.device c.args.answer old (record { closed = old.closed; channels = with_item old.channels c.args.device c.answer.new.self }) c.in-Some.channel.now c.answer.new.self stood c.answer.ensures refl refl

pub returns-in_default : goal.returns-in_default
returns-in_default c = answered_none c.args.device c.args.answer c.args.self.now (slice_get_past c.args.self.now.channels.items c.args.device (omega (arith, c.in_default.ensures.item)))
