use Rattle.std.proofs.Common.{◌≡◌, [], take, drop, reverse}
use Rattle.lw_model.specs.Rounds.{row_fits}
use Rattle.lw_judge_threads.specs.Firsts.{first_unfit}
use Rattle.lw_judge_rounds.specs.RoundsAt.{least_thread}
use Rattle.lw_judge_rounds.proofs.planned.unfit_row.Given as goal

abbrev pub invariant-loop-place : goal.invariant-loop-place
invariant-loop-place l = record {
  left : first_unfit (row_fits l.of) 0 [] l.rows ≡ first_unfit (row_fits l.of) l.place (reverse (take l.place l.rows)) (drop l.place l.rows);
  least : l.least ≡ least_thread (reverse (take l.place l.rows));
}
