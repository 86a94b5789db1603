use Rattle.std.proofs.Common.{◌≡◌, ◌≤◌, ◌+◌, ◌∷◌, [], true, cond, vec_len}
use Rattle.lw_target.specs.declared.device.Device.{Device}
use Rattle.lw_target.specs.App.{SameLines}
use Rattle.lw_target.specs.Work.{app_work}
use Rattle.lw_target.proofs.AppEnding.{called}
use Rattle.lw_target.proofs.AppRounds.{MadeCalls}
use Rattle.lw_target.proofs.app.App.call_back.Given as goal

abbrev pub invariant-loop-place : goal.invariant-loop-place
invariant-loop-place l = record {
  owed : vec_len l.self.owed ≡ vec_len l.initial.self.owed;
  ended : l.self.ended ≡ l.initial.self.ended;
  work : app_work l.self + cond l.called 1 0 ≤ app_work l.initial.self;
  rest : SameLines l.initial.self l.self;
  each : MadeCalls l.at l.place l.initial.devices l.initial.self.owed.items l.initial.self.called l.self.owed.items l.self.called l.devices;
  one : (v : Device) → l.initial.devices ≡ v ∷ [] → v.standing ≡ 0 → l.initial.self.owed.items ≡ true ∷ []
      → called l.place l.initial.self.called l.self l.at v l.devices;
}
