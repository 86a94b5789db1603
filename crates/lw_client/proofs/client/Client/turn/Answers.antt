use Rattle.lw_client.specs.Doing.{State}
use Rattle.lw_client.proofs.Goes.{goes_both}
use Rattle.lw_client.proofs.client.Client.turn.Goals as goal

pub returns-then-listed-clause-goes : goal.returns-then-listed-clause-goes
returns-then-listed-clause-goes g c =
    let s : State = record { body = c.args.self.now; acts = c.args.acts.now } in
    let a : State = record { body = c.call_backs.new.self; acts = c.call_backs.new.acts } in
    let b : State = record { body = c.do_ops.new.self; acts = c.do_ops.new.acts } in
    let d : State = record { body = c.close.new.self; acts = c.close.new.acts } in
    let t : State = record { body = c.end_well.new.self; acts = c.end_well.new.acts } in
    goes_both s a t c.in_ok-call_backs.ensures.lists.goes (goes_both a b t c.in_ok-do_ops.ensures.lists.goes (goes_both b d t c.in_ok-close.ensures.lists.goes c.in_ok-told.ensures.goes))

pub returns-else-listed-clause-goes : goal.returns-else-listed-clause-goes
returns-else-listed-clause-goes g c =
    let s : State = record { body = c.args.self.now; acts = c.args.acts.now } in
    let a : State = record { body = c.call_backs.new.self; acts = c.call_backs.new.acts } in
    let b : State = record { body = c.do_ops.new.self; acts = c.do_ops.new.acts } in
    let d : State = record { body = c.close.new.self; acts = c.close.new.acts } in
    let t : State = record { body = c.end_well.new.self; acts = c.end_well.new.acts } in
    goes_both s a t c.in_ok-call_backs.ensures.lists.goes (goes_both a b t c.in_ok-do_ops.ensures.lists.goes (goes_both b d t c.in_ok-close.ensures.lists.goes c.in_ok-told.ensures.goes))
