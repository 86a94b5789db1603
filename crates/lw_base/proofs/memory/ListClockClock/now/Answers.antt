use Rattle.std.proofs.Common.{rules}
use Rattle.lw_base.proofs.Readings.{continues}
use Rattle.lw_base.proofs.memory.ListClockClock.now.Goals as goal

pub returns-clause-continues : goal.returns-clause-continues
returns-clause-continues c = continues c.args.self.now.list.items c.args.self.now.calls c.reading.result c.saturating_add-self.result (search rules) (search rules)
