use Rattle.std.proofs.Common.{rules, []}
use Rattle.lw_workload.specs.Workload.{client_drawn}
use Rattle.lw_workload.proofs.Words.{pushed}
use Rattle.lw_workload.proofs.drawing.clients.Goals as goal

pub loop-client-preserved : goal.loop-client-preserved
loop-client-preserved c = pushed (client_drawn c.args.seed c.args.ops) [] _ _ c.loop-client.client c.in_ok-one_client.field-0 c.loop-client.invariant (search rules) c.in_ok-one_client.ensures
