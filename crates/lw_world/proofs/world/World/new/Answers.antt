use Rattle.lw_world.proofs.FirstWorld.{first_parts}
use Rattle.lw_world.proofs.world.World.new.Goals as goal

pub invariant_of-result : goal.invariant_of-result
invariant_of-result c =
    first_parts c.args.threads c.args.reactors c.args.devices c.requires.threads c.requires.some_reactors c.requires.devices
    c.in_ok-sent.sent c.in_ok-run.run' c.in_ok-channels.channels c.in_ok-visits.visits c.in_ok-standing.standing c.in_ok-stage.stage c.in_ok-asleep.asleep.items
    c.in_ok-sent.ensures c.in_ok-run.ensures c.in_ok-channels.ensures c.in_ok-visits.ensures c.in_ok-standing.ensures c.in_ok-stage.ensures c.in_ok-asleep.ensures
