use Rattle.std.proofs.Common.{refl, ◌≡◌, slice_get, Some, arith}
use Rattle.std.specs.Vec.{with_item}
use Rattle.std.proofs.lemmas.Option.{slice_get_past, gets}
use Rattle.std.proofs.lemmas.Grind.{common_steps}
use Rattle.lw_judge_threads.proofs.HoldingSteps.{ran, ran_none}
use Rattle.lw_judge_threads.proofs.holding.Holding.run_putself.Goals as goal

pub returns-in-Some : goal.returns-in-Some
returns-in-Some c =
    let old = c.args.self.now in
    let stood : slice_get old.channels.items c.args.device ≡ Some c.in-Some.channel.now = grind (arith, common_steps, gets) in
    ran c.args.device old (record { closed = old.closed; channels = with_item old.channels c.args.device c.run_putself.new.self }) c.in-Some.channel.now c.run_putself.new.self stood c.run_putself.ensures refl refl

pub returns-in_default : goal.returns-in_default
returns-in_default c = ran_none c.args.device c.args.self.now (slice_get_past c.args.self.now.channels.items c.args.device (omega (arith, c.in_default.ensures.item)))
