use Rattle.std.proofs.Common.{◌≡◌, length}
use Rattle.lw_judge_threads.proofs.CountsBelow.{CountsBelow}
use Rattle.lw_judge_threads.proofs.numbering.counts_below_len.Given as goal

abbrev pub invariant-loop-number : goal.invariant-loop-number
invariant-loop-number l = record {
  count : length l.counts.items ≡ length l.numbers;
  each : CountsBelow l.numbers l.number-index l.counts.items;
}
