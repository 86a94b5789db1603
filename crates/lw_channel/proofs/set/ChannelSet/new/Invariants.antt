use Rattle.std.proofs.Common.{◌≡◌, replicate}
use Rattle.lw_channel.specs.Channels.{no_channel}
use Rattle.lw_channel.proofs.set.ChannelSet.new.Given as goal

abbrev pub invariant-loop : goal.invariant-loop
invariant-loop l = l.channels.items ≡ replicate l.counter no_channel
