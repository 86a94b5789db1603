use Rattle.std.proofs.Common.{◌≡◌, ◌++◌, ◌+◌, ◌%◌, length, map, slice_index}
use Rattle.std.specs.List.{range_with_len}
use Rattle.lw_judge_devices.proofs.replay.push_repeated.Given as goal

abbrev pub invariant-loop : goal.invariant-loop
invariant-loop l = record {
  bytes : l.bytes.items ≡ l.initial.bytes.items ++ map (λ i. slice_index l.pattern (i % length l.pattern)) (range_with_len l.from l.counter);
  place : l.place ≡ (l.from + l.counter) % length l.pattern;
}
