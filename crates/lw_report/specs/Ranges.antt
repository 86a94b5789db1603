-- What a report says, with numbers that fit their types.
use Rattle.std.specs.List.{AllByRecursion}
use Rattle.lw_model.specs.Ranges.{Fits32, DeviceFits, RoundFits, ScriptFits, SpanFits, ThreadFits}
use Rattle.lw_report.specs.declared.contents.Contents.{Contents}

-- each number fits its type, and so do the lengths of the lists that are counted. Reactors and period have bounds of
-- their own.
pub record InRange (c : Contents) : Type 0 where
  pub script : ScriptFits c.script
  pub threads : AllByRecursion ThreadFits c.threads
  pub devices : AllByRecursion DeviceFits c.devices
  pub span : SpanFits c.span
  pub rounds : AllByRecursion RoundFits c.rounds
  pub small : Fits32 c.home.small
  pub large : Fits32 c.home.large
