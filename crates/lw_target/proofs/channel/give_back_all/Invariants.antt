use Rattle.std.proofs.Common.{◌≡◌, ◌++◌, map, take, drop}
use Rattle.lw_target.specs.Effects.{gave_back}
use Rattle.lw_target.proofs.channel.give_back_all.Given as goal

abbrev pub invariant-loop-channel : goal.invariant-loop-channel
invariant-loop-channel l = l.channel-items ≡ map gave_back (take l.channel-index l.fn.channels.items) ++ drop l.channel-index l.fn.channels.items
