use Rattle.std.proofs.Common.{◌∙◌, ap, arith, length}
use Rattle.lw_target.proofs.Holdings.{give_back_more}
use Rattle.lw_target.proofs.channel.give_back_all.Goals as goal

pub loop-channel-preserved : goal.loop-channel-preserved
loop-channel-preserved c =
    let same = c.deref_mut-channel-items.ensures.value in
    give_back_more c.args.channels.now.items c.loop-channel.channel-items c.loop-channel.channel-index c.gave_back.result _
    (omega (arith, c.loop-channel-test.true, ap length same)) c.loop-channel.invariant (c.loop-channel.auto.channel-items ∙ ap length same) c.gave_back.ensures
