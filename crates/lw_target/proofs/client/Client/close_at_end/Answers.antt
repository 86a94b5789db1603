use Rattle.std.proofs.Common.{arith}
use Rattle.lw_target.proofs.Ending.{Closes, close_went_on}
use Rattle.lw_target.proofs.Handling.{close_progress}
use Rattle.lw_target.proofs.client.Client.close_at_end.Goals as goal

closes : (c : goal.In_ok-close) → Closes c.args.self.now c.close.new.self c.args.acts.now c.close.new.acts
closes c = record {
  going = c.if-self.false;
  ended = omega (arith, c.if-self-len.false, c.len.ensures, c.args.self.now.within);
  answered = omega (arith, c.if-len-gt0.false, c.len-else-self-len.ensures, c.args.self.now.unanswered.ok.0);
  closing = c.in_ok-close.ensures;
}

pub returns-clause-progress : goal.returns-clause-progress
returns-clause-progress c = close_progress _ _ _ _ c.if-self.false c.in_ok-close.ensures

pub returns-clause-went_on : goal.returns-clause-went_on
returns-clause-went_on c = λ devices. close_went_on c.args.self.now c.close.new.self c.args.acts.now c.close.new.acts devices (closes c)
