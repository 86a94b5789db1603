use Rattle.std.proofs.Common.{◌≡◌, ◌∷◌, [], None, true, vec_len}
use Rattle.lw_target.specs.declared.device.Device.{Device}
use Rattle.lw_target.specs.App.{SameCalls}
use Rattle.lw_target.proofs.AppEnding.{begun}
use Rattle.lw_target.proofs.AppRounds.{Begun}
use Rattle.lw_target.proofs.app.App.begin.Given as goal

abbrev pub invariant-loop-place : goal.invariant-loop-place
invariant-loop-place l = record {
  owed : vec_len l.self.owed ≡ vec_len l.initial.self.owed;
  began : l.self.began ≡ true;
  rest : SameCalls l.initial.self l.self;
  each : Begun l.at l.place l.initial.devices l.initial.self.owed.items l.initial.self.did l.self.owed.items l.self.did l.devices;
  one : (v : Device) → l.initial.devices ≡ v ∷ [] → v.shut_by ≡ None → begun l.place l.initial.self.did l.self l.at v l.devices;
}
