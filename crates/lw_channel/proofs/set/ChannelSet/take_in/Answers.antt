use Rattle.std.proofs.Common.{◌≡◌, sym, ap, subst, ◌∙◌}
use Rattle.lw_device.specs.Rows.{Row, latches}
use Rattle.lw_channel.specs.Channels.{Channels, AreAgreed}
use Rattle.lw_channel.proofs.Agreement.{agreed_both}
use Rattle.lw_channel.proofs.set.ChannelSet.take_in.Goals as goal

pub invariant_of-self : goal.invariant_of-self
invariant_of-self c =
    let ks = c.self.inside.channels.items in
    let of : latches c.into_row.result ≡ latches c.self.inside.row = ap latches c.into_row.ensures.row ∙ c.requires.registry ∙ ap (λ (s : Channels). latches s.row) (sym c.self.view_is) in
    let P : Row → Type 0 = λ n. AreAgreed n.seats ks in subst P (sym c.take_in.ensures.both) (agreed_both c.self.inside.row c.into_row.result ks of c.into_row.ensures.free c.self.invariant)
