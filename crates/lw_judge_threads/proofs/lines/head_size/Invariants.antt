use Rattle.std.proofs.Common.{◌≡◌, ◌+◌, length, take}
use Rattle.std.specs.List.{sum_by}
use Rattle.lw_judge_threads.proofs.lines.head_size.Given as goal

abbrev pub invariant-loop-client : goal.invariant-loop-client
invariant-loop-client l = l.size ≡ 7 + length l.script.images + sum_by (λ c. 1 + length c.ops) (take l.client-index l.script.clients)
