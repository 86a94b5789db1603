use Rattle.std.proofs.Common.{◌≡◌, refl, sym, ap, subst, ◌∙◌}
use Rattle.lw_latch.specs.DeviceWord.{closing_word}
use Rattle.lw_latch.specs.declared.device.Firing.TheVariants.{Fired, NotYet}
use Rattle.lw_device.specs.Rows.{Row, seat_of, seat_fired, seat_tried}
use Rattle.lw_channel.specs.Channels.{Channels, AreAgreed, with_row}
use Rattle.lw_channel.proofs.Agreement.{agreed_row}
use Rattle.lw_channel.proofs.set.ChannelSet.callback_due.Goals as goal

pub invariant_of-self : goal.invariant_of-self
invariant_of-self c =
    let r = c.self.inside.row in
    let ks = c.self.inside.channels.items in
    let d = c.args.device in
    let P : Row → Type 0 = λ n. AreAgreed n.seats ks in
    elim c.callback_due.result as (λ x. c.callback_due.result ≡ x → P c.callback_due.new.self) [
      | Fired ↦ λ q. subst P (sym (c.callback_due.ensures.fired q).0) (agreed_row r ks d seat_fired (λ e. (refl, refl)) c.self.invariant)
      | NotYet seen ↦ λ q. subst P (sym (c.callback_due.ensures.not_yet seen q).0) (agreed_row r ks d (seat_tried seen) (λ e. (refl, refl)) c.self.invariant)
    ] refl

pub returns-clause-not_yet : goal.returns-clause-not_yet
returns-clause-not_yet c = λ seen q.
    let told = c.callback_due.ensures.not_yet seen q in
    let d = c.args.device in (
      ap (λ (r : Row). record { row = r; channels = c.self.inside.channels.items }) told.0 ∙ ap (λ (s : Channels). with_row s d (seat_tried seen)) c.self.view_is,
      λ e. told.1 (e ∙ ap (λ (s : Channels). closing_word (seat_of s.row d).view.count) (sym c.self.view_is)),
    )
