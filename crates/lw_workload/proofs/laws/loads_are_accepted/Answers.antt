use Rattle.lw_workload.proofs.Rules.{accepted, none_unregisters}
use Rattle.lw_workload.proofs.laws.loads_are_accepted.Goals as goal

pub returns : goal.returns
returns c = record {
  accepted = λ seed ops few. accepted seed ops few;
  none = λ seed ops. none_unregisters seed ops;
}
