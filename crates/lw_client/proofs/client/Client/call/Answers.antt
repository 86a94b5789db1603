use Rattle.std.proofs.Common.{sym, ◌∙◌}
use Rattle.lw_client.proofs.Waiting.{wait_goes}
use Rattle.lw_client.proofs.client.Client.call.Goals as goal

pub returns-then-is_timer-clause-goes : goal.returns-then-is_timer-clause-goes
returns-then-is_timer-clause-goes g c = wait_goes c.args.poller c.args.now (record { body = c.args.self.now; acts = c.args.acts.now }) (record { body = c.end_wait.new.self; acts = c.end_wait.new.acts }) (sym c.is_timer.ensures ∙ c.if-is_timer.true) c.in_ok-end_wait.ensures
