use Rattle.std.proofs.Common.{◌≡◌, [], take, drop, reverse}
use Rattle.lw_judge_threads.specs.Firsts.{first_unfit}
use Rattle.lw_judge_messages.specs.RanSent.{ran_fits, HasTokens}
use Rattle.lw_judge_messages.proofs.ran.first_unfit.Given as goal

abbrev pub invariant-loop-place : goal.invariant-loop-place
invariant-loop-place l = record {
  left : first_unfit (ran_fits l.sends l.thread) 0 [] l.ran ≡ first_unfit (ran_fits l.sends l.thread) l.place (reverse (take l.place l.ran)) (drop l.place l.ran);
  tokens : HasTokens (reverse (take l.place l.ran)) l.tokens;
}
