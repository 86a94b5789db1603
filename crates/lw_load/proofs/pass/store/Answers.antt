use Rattle.std.proofs.Common.{rules}
use Rattle.lw_load.proofs.Steps.{publishes}
use Rattle.lw_load.proofs.pass.store.Goals as goal

pub swap_as-requires : goal.swap_as-requires
swap_as-requires g c = (search rules, (search rules, (search rules, publishes _ _ c.args.busy c.args.idle c.requires.own c.requires.busy c.requires.idle)))
