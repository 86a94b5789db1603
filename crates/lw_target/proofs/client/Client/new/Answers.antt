use Rattle.lw_target.proofs.Beginning.{fresh_follows, fresh_sends, fresh_refused, fresh_agree}
use Rattle.lw_target.proofs.client.Client.new.Goals as goal

pub returns-clause-follows : goal.returns-clause-follows
returns-clause-follows c = λ s of. fresh_follows s c.in_ok-client.client c.in_ok-client.ensures.fresh of

pub returns-clause-sent : goal.returns-clause-sent
returns-clause-sent c = λ s. fresh_sends s c.in_ok-client.client c.in_ok-client.ensures.fresh

pub returns-clause-refused : goal.returns-clause-refused
returns-clause-refused c = fresh_refused c.in_ok-client.client c.in_ok-client.ensures.fresh

pub returns-clause-agree : goal.returns-clause-agree
returns-clause-agree c = λ s devices zeros. fresh_agree s c.in_ok-client.client devices c.in_ok-client.ensures.fresh zeros
