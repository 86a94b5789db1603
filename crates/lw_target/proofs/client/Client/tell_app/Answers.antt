use Rattle.std.proofs.Common.{arith}
use Rattle.lw_target.proofs.Ticking.{tell_went_on}
use Rattle.lw_target.proofs.client.Client.tell_app.Goals as goal

pub returns-clause-went_on : goal.returns-clause-went_on
returns-clause-went_on c = λ devices. tell_went_on c.args.self.now c.tell.new.self c.args.acts.now c.tell.new.acts devices c.if-self.false c.if-not-self.false (omega (arith, c.if-self-gt0.false)) c.in_ok-tell.ensures
