use Rattle.std.proofs.Common.{◌≡◌, ◌++◌, take}
use Rattle.lw_target.specs.Effects.{puts_of}
use Rattle.lw_target.proofs.client.Client.send_puts.Given as goal

abbrev pub invariant-loop-image : goal.invariant-loop-image
invariant-loop-image l = l.acts ≡ record l.initial.acts { sends = l.initial.acts.sends ++ puts_of l.self.thread 0 (take l.image l.self.channels.items) }
