use Rattle.lw_client.proofs.Goes.{lists_none}
use Rattle.lw_client.proofs.client.Client.close.Goals as goal

pub returns-clause-lists : goal.returns-clause-lists
returns-clause-lists c = lists_none (record { body = c.args.self.now; acts = c.args.acts.now })
