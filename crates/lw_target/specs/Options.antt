-- The options that a run serves.
use Rattle.std.specs.Prelude.{◌≡◌, true}
use Rattle.lw_base.specs.declared.moves.Scheduler.TheVariants.{Static}
use Rattle.lw_model.specs.ScriptRules.{is_within}
use Rattle.lw_target.specs.declared.options.Options.{Options}

-- one reactor, turned by the caller, under the static scheduler, with any period that a report may have
pub record AreServed (o : Options) : Type 0 where
  pub scheduler : o.scheduler ≡ Static
  pub reactors : o.reactors ≡ 1
  pub beside : o.beside ≡ 0
  pub period : is_within 1 1000000000000 o.period ≡ true
