use Rattle.std.proofs.Common.{◌≡◌, take, length, min}
use Rattle.std.specs.List.{flat_map}
use Rattle.lw_script_rules.proofs.limits.op_count.Given as goal

abbrev pub invariant-loop-client : goal.invariant-loop-client
invariant-loop-client l = l.count ≡ min (length (flat_map (λ c. c.ops) (take l.client-index l.script.clients))) 18446744073709551615
