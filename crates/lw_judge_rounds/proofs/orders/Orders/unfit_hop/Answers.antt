use Rattle.std.proofs.Common.{take, reverse, sym, ap, ◌∙◌}
use Rattle.lw_base.specs.declared.moves.Hop.{Hop}
use Rattle.lw_model.specs.Moves.{hop_fits}
use Rattle.lw_judge_rounds.specs.OrdersOf.{least_round}
use Rattle.lw_judge_threads.proofs.Counts.{past_more, unfit_more}
use Rattle.lw_judge_rounds.proofs.orders.Orders.unfit_hop.Goals as goal

-- past a list's end
abbrev no_hop : Hop
no_hop = record { round = 0; reactor = 0 }

pub loop-place-preserved : goal.loop-place-preserved
loop-place-preserved c =
    let hops = c.args.hops.now in
    let i = c.loop-place.place in
    let past = reverse (take i hops) in
    record {
      left = λ r are.
          c.loop-place.invariant.left r are
          ∙ unfit_more (hop_fits r c.args.thread) hops i no_hop c.loop-place-test.true (sym (c.fits.ensures r past are c.loop-place.invariant.least) ∙ c.if-not-fits.false);
      least = sym (ap least_round (past_more hops i no_hop c.loop-place-test.true));
    }
