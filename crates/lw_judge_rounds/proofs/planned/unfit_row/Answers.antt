use Rattle.std.proofs.Common.{take, reverse, sym, ap, ◌∙◌}
use Rattle.lw_base.specs.declared.moves.Row.{Row}
use Rattle.lw_model.specs.Rounds.{row_fits}
use Rattle.lw_judge_rounds.specs.RoundsAt.{least_thread}
use Rattle.lw_judge_threads.proofs.Counts.{past_more, unfit_more}
use Rattle.lw_judge_rounds.proofs.planned.unfit_row.Goals as goal

-- past a list's end
abbrev no_row : Row
no_row = record { thread = 0; reactor = 0; busy = 0; idle = 0 }

pub loop-place-preserved : goal.loop-place-preserved
loop-place-preserved c =
    let rows = c.args.rows.now in
    let i = c.loop-place.place in
    let past = reverse (take i rows) in
    record {
      left = c.loop-place.invariant.left
          ∙ unfit_more (row_fits c.args.of.now) rows i no_row c.loop-place-test.true (sym (c.row_fits.ensures past c.loop-place.invariant.least) ∙ c.if-not-row_fits.false);
      least = sym (ap least_thread (past_more rows i no_row c.loop-place-test.true));
    }
