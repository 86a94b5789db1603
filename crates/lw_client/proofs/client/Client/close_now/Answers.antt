use Rattle.std.proofs.Common.{sym, ap, subst, ◌∙◌}
use Rattle.lw_client.specs.declared.client.Client.{Client}
use Rattle.lw_client.specs.Doing.{State}
use Rattle.lw_client.specs.Going.{IsWell, Goes}
use Rattle.lw_client.specs.Turning.{closed}
use Rattle.lw_client.proofs.Closes.{closed_lists}
use Rattle.lw_client.proofs.Ends.{closing_lists}
use Rattle.lw_client.proofs.Goes.{on_ok}
use Rattle.lw_client.proofs.client.Client.close_now.Goals as goal

pub give_all_back-requires-clause-well : goal.give_all_back-requires-clause-well
give_all_back-requires-clause-well c =
    let w = c.requires.well in
    let s : State = record { body = c.args.self.now; acts = c.args.acts.now } in
    let e = c.in_ok-list_closed.ensures ∙ ap (λ n. closed n c.args.self.now) c.ran.ensures.count in
    (w.0, subst (λ (b : Client). IsWell w.0 (record { body = b; acts = c.args.acts.now })) (sym e) ((closed_lists s c.requires.may).goes.well w.0 w.1))

pub returns-clause-lists : goal.returns-clause-lists
returns-clause-lists c =
    let s : State = record { body = c.args.self.now; acts = c.args.acts.now } in
    let t : State = record { body = c.give_all_back.new.self; acts = c.give_all_back.new.acts } in
    let e = c.in_ok-list_closed.ensures ∙ ap (λ n. closed n c.args.self.now) c.ran.ensures.count in
    on_ok c.give_all_back.result (λ g. closing_lists s t c.requires.may (subst (λ (b : Client). Goes (record { body = b; acts = c.args.acts.now }) t) e g)) c.give_all_back.ensures.goes
