use Rattle.std.proofs.Common.{ap, sym, ◌∙◌, length, arith, slice_set}
use Rattle.std.proofs.lemmas.List.Edits.{map_over_more}
use Rattle.lw_event.specs.Sleepers.{SleeperEnd, once_more}
use Rattle.lw_event.proofs.sleeper.Sleeper.wake_all.Goals as goal

pub loop-waker-preserved : goal.loop-waker-preserved
loop-waker-preserved c =
    let l = c.loop-waker in
    let same = c.deref_mut-waker-items.ensures.value ∙ ap (λ (s : SleeperEnd). s.wakers) c.self.view_is in
    ap (λ w. slice_set l.waker-items l.waker-index w) (c.wake.ensures ∙ ap once_more (sym c.waker-item.is))
    ∙ map_over_more once_more c.args.self.now.wakers l.waker-items l.waker-index c.waker-item.result (omega (arith, c.loop-waker-test.true, ap length same)) l.invariant c.waker-item.is
