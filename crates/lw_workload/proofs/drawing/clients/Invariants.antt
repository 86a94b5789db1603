use Rattle.std.proofs.Common.{◌≡◌, map}
use Rattle.std.specs.List.{range_with_len}
use Rattle.lw_workload.specs.Workload.{client_drawn}
use Rattle.lw_workload.proofs.drawing.clients.Given as goal

abbrev pub invariant-loop-client : goal.invariant-loop-client
invariant-loop-client l = l.list.items ≡ map (client_drawn l.seed l.ops) (range_with_len 0 l.client)
