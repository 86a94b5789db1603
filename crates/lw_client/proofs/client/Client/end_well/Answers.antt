use Rattle.lw_client.proofs.Ends.{end_goes, end_lines, end_told}
use Rattle.lw_client.proofs.client.Client.end_well.Goals as goal

pub returns-clause-goes : goal.returns-clause-goes
returns-clause-goes c = end_goes (record { body = c.args.self.now; acts = c.args.acts.now }) (record { body = c.end.new.self; acts = c.end.new.acts }) c.end.result c.end.ensures.told c.end.ensures.stays

pub returns-clause-lines : goal.returns-clause-lines
returns-clause-lines c = end_lines (record { body = c.args.self.now; acts = c.args.acts.now }) (record { body = c.end.new.self; acts = c.end.new.acts }) c.end.result c.end.ensures.told c.end.ensures.stays

pub returns-clause-told : goal.returns-clause-told
returns-clause-told c = end_told (record { body = c.args.self.now; acts = c.args.acts.now }) (record { body = c.end.new.self; acts = c.end.new.acts }) c.end.result c.end.ensures.told
