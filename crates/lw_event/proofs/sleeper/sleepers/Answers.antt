use Rattle.std.proofs.Common.{rules}
use Rattle.lw_event.proofs.Equipped.{equipped}
use Rattle.lw_event.proofs.sleeper.sleepers.Goals as goal

pub loop-reactor-preserved : goal.loop-reactor-preserved
loop-reactor-preserved c =
    let b = c.behind-sleepers in
    equipped c.in_ok-sleepers.sleepers.items c.loop-reactor.sleepers.items c.loop-reactor.reactor c.index_mut.result.now _ c.in_ok-wakers.wakers.items (search rules) c.index_mut.ensures.value (search rules) (search rules) c.loop-reactor.invariant
