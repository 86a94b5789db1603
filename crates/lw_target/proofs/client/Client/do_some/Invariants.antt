use Rattle.std.proofs.Common.{◌≡◌, false, cond, ◌≤◌, ◌+◌}
use Rattle.lw_target.specs.Client.{Progress}
use Rattle.lw_target.specs.ClientCalls.{WentOn}
use Rattle.lw_target.proofs.client.Client.do_some.Given as goal

abbrev pub invariant-loop : goal.invariant-loop
invariant-loop l = record {
  progress : Progress l.initial.self l.self l.initial.acts l.acts (cond l.worked 1 0);
  went_on : WentOn l.initial.self l.self l.initial.acts l.acts l.initial.devices l.devices;
  still : l.worked ≡ false → (l.self ≡ l.initial.self) × (l.acts ≡ l.initial.acts) × (l.devices ≡ l.initial.devices) × (l.counter ≡ 0);
  most : l.self.next ≤ l.initial.self.next + l.counter;
}
