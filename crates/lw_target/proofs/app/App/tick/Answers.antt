use Rattle.std.proofs.Common.{ap, ◌∙◌, sym, subst}
use Rattle.std.specs.Prelude.{◌||◌}
use Rattle.lw_target.specs.App.{Calls}
use Rattle.lw_target.proofs.AppEnding.{ends_all}
use Rattle.lw_target.proofs.app.App.tick.Goals as goal

pub returns-clause-over : goal.returns-clause-over
returns-clause-over c = λ due v is unused.
    let began = c.in_ok-worked.ensures.one due.began v is unused.usable in (
      ap (λ b. b || c.in_ok-worked-2.field-0 || c.in_ok-worked-3.field-0) began.0,
      ends_all c.args.self.now c.begin.new.self c.call_back.new.self c.stop_owners.new.self c.args.acts.now c.stop_owners.new.acts c.ran.result v c.begin.new.devices c.call_back.new.devices
          c.ran.ensures began.1 unused.usable unused.standing
          (λ u e f g. subst (λ n. Calls c.begin.new.self c.call_back.new.self n u c.call_back.new.devices) (c.ran-2.ensures ∙ sym c.ran.ensures) (c.in_ok-worked-2.ensures.one u e f g)) c.in_ok-worked-3.ensures.one,
    )
