use Rattle.std.proofs.Common.{◌≡◌, ◌+◌, ◌-◌, ap, sym, ◌∙◌, length, filter, slice_index, arith}
use Rattle.lw_base.specs.Masks.{allows}
use Rattle.lw_sched.specs.BestOf.{best_of, looked}
use Rattle.lw_sched.proofs.Looks.{behind, behind_more, looked_more}
use Rattle.lw_sched.proofs.best.Best.of.Goals as goal

-- Each turn looks at the reactor before.
pub loop-reactor-preserved : goal.loop-reactor-preserved
loop-reactor-preserved c =
    let R = length c.args.planned.now in
    let loads = slice_index c.args.planned.now in
    let m = c.args.mover in
    let d = c.loop-reactor.reactor - 1 in
    let next : c.loop-reactor.reactor ≡ d + 1 = omega (arith, c.loop-reactor-test.true) in
    record {
      some = omega (arith, c.loop-reactor-test.true);
      within = omega (arith, c.loop-reactor.invariant.within);
      best =
          c.look-best-in-loop-reactor.ensures.best
          ∙ ap (λ b. looked m loads R d b) (c.loop-reactor.invariant.best ∙ ap (λ k. best_of m loads (filter (allows m.mask R) (behind R k))) next)
          ∙ looked_more m loads R d (behind R (d + 1))
          ∙ ap (λ l. best_of m loads (filter (allows m.mask R) l)) (sym (behind_more R d (omega (arith, c.loop-reactor.invariant.within, c.loop-reactor-test.true))));
      below = c.look-best-in-loop-reactor.ensures.below;
    }
