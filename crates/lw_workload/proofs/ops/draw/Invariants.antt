use Rattle.std.proofs.Common.{◌≡◌, ◌+◌, ◌*◌, ◌++◌, map}
use Rattle.std.specs.List.{range_with_len}
use Rattle.lw_workload.specs.Workload.{generator_at, op_at}
use Rattle.lw_workload.proofs.ops.draw.Given as goal

abbrev pub invariant-loop : goal.invariant-loop
invariant-loop l = record {
  words : l.words ≡ generator_at l.seed (2 * (8 * l.counter + l.client));
  list : l.list.items ≡ l.initial.list.items ++ map (λ i. op_at l.seed (8 * i + l.client)) (range_with_len 0 l.counter);
}
