use Rattle.std.proofs.Common.{◌≡◌, ℕ, List, length, replicate, sym, ap, subst, ◌∙◌, arith}
use Rattle.lw_channel.specs.declared.channel.Channel.{Channel}
use Rattle.lw_channel.specs.Channels.{no_channel, AreAgreed}
use Rattle.lw_channel.proofs.Agreement.{agreed_new}
use Rattle.lw_channel.proofs.set.ChannelSet.new.Goals as goal

pub invariant_of-result : goal.invariant_of-result
invariant_of-result c =
    let count : c.loop.counter ≡ length c.args.row.seats = omega arith in
    let all : c.loop.channels.items ≡ replicate (length c.args.row.seats) no_channel = c.loop.invariant ∙ ap (λ (n : ℕ). replicate n no_channel) count in
    subst (λ (ks : List Channel). AreAgreed c.args.row.seats ks) (sym all) (agreed_new c.args.row.seats c.requires.channels c.requires.gets)
