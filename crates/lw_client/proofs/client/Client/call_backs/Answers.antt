use Rattle.std.proofs.Common.{refl, arith}
use Rattle.lw_client.specs.Doing.{State}
use Rattle.lw_client.proofs.Calls.{may_call, tries_lists}
use Rattle.lw_client.proofs.Goes.{lists_none, lists_both}
use Rattle.lw_client.proofs.Loops.{tries_more, still_within}
use Rattle.lw_client.proofs.client.Client.call_backs.Goals as goal

pub loop-image-init : goal.loop-image-init
loop-image-init c = record { tries = refl; lists = lists_none (record { body = c.args.self.now; acts = c.args.acts.now }) }

pub call_back-requires : goal.call_back-requires
call_back-requires c =
    let w = c.requires in
    let between : State = record { body = c.loop-image.self; acts = c.loop-image.acts } in
    may_call w.well.0 c.loop-image.self c.loop-image.image (c.loop-image.invariant.lists.goes.well w.well.0 w.well.1).sound
    (still_within w.well.0 (record { body = c.args.self.now; acts = c.args.acts.now }) between c.loop-image.image w.well.1 c.loop-image.invariant.lists.goes (omega arith))

pub loop-image-preserved : goal.loop-image-preserved
loop-image-preserved c =
    let w = c.requires in
    let before : State = record { body = c.args.self.now; acts = c.args.acts.now } in
    let between : State = record { body = c.loop-image.self; acts = c.loop-image.acts } in
    let after : State = record { body = c.call_back.new.self; acts = c.call_back.new.acts } in
    let within = still_within w.well.0 before between c.loop-image.image w.well.1 c.loop-image.invariant.lists.goes (omega arith) in
    record {
      tries = tries_more c.loop-image.image before between after c.loop-image.invariant.tries c.in_ok-call_back.ensures;
      lists = lists_both before between after c.loop-image.invariant.lists (tries_lists c.loop-image.image between after within c.in_ok-call_back.ensures);
    }
