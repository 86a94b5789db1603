use Rattle.std.proofs.Common.{◌≡◌, ℕ, ◌==◌, [], take, drop, reverse, count_by, unwrap_or, nat_eq}
use Rattle.std.specs.HashMap.{get}
use Rattle.lw_model.specs.Moves.{number_fits}
use Rattle.lw_judge_threads.specs.Firsts.{first_unfit}
use Rattle.lw_judge.proofs.numbers.misnumbered.Given as goal

abbrev pub invariant-loop-place : goal.invariant-loop-place
invariant-loop-place l = record {
  left : first_unfit number_fits 0 [] l.ran ≡ first_unfit number_fits l.place (reverse (take l.place l.ran)) (drop l.place l.ran);
  counts : (s : ℕ) → unwrap_or (get nat_eq l.counts s) 0 ≡ count_by (λ m. m.sender == s) (reverse (take l.place l.ran));
}
