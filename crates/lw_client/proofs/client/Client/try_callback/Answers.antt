use Rattle.std.proofs.Common.{Some, refl, ap, inr}
use Rattle.lw_channel.specs.Channels.{Channels}
use Rattle.lw_client.proofs.client.Client.try_callback.Goals as goal

pub returns-in-NotYet : goal.returns-in-NotYet
returns-in-NotYet c =
    let n = c.callback_due.ensures.not_yet c.in-NotYet.seen c.in-NotYet.is in
    (c.in-Some.set, c.in-Some.is, inr (record { seen = c.in-NotYet.seen; other = n.1; becomes = (ap (λ (x : Channels). record c.args.self.now { set = Some x }) n.0, refl) }))
