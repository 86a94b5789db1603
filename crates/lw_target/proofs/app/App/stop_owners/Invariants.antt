use Rattle.std.proofs.Common.{◌≡◌, ◌+◌, ◌++◌, vec_len}
use Rattle.std.specs.List.{All}
use Rattle.lw_target.specs.Messages.{asked_work}
use Rattle.lw_target.specs.App.{IsStop}
use Rattle.lw_target.specs.AppCalls.{stops}
use Rattle.lw_target.proofs.AppEnding.{stopped}
use Rattle.lw_target.proofs.app.App.stop_owners.Given as goal

abbrev pub invariant-loop-owner : goal.invariant-loop-owner
invariant-loop-owner l = record {
  ran : l.acts.ran ≡ l.initial.acts.ran;
  sends : All IsStop l.initial.acts.sends → All IsStop l.acts.sends;
  work : asked_work l.acts.sends ≡ asked_work l.initial.acts.sends + l.owner;
  each : l.acts.sends ≡ l.initial.acts.sends ++ stops l.self.clients l.owner;
  one : vec_len l.self.owed ≡ 1 → stopped l.owner l.self.clients l.initial.acts.sends l.acts.sends;
}
