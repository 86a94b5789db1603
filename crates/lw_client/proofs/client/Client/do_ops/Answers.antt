use Rattle.std.proofs.Common.{refl}
use Rattle.lw_client.specs.Doing.{State}
use Rattle.lw_client.proofs.Does.{does_lists}
use Rattle.lw_client.proofs.Goes.{lists_none, lists_both}
use Rattle.lw_client.proofs.Loops.{does_more}
use Rattle.lw_client.proofs.client.Client.do_ops.Goals as goal

pub loop-done-init : goal.loop-done-init
loop-done-init g c = record { does = refl; lists = lists_none (record { body = c.args.self.now; acts = c.args.acts.now }) }

pub loop-done-preserved : goal.loop-done-preserved
loop-done-preserved g c =
    let before : State = record { body = c.args.self.now; acts = c.args.acts.now } in
    let between : State = record { body = c.loop-done.self; acts = c.loop-done.acts } in
    let after : State = record { body = c.do_next.new.self; acts = c.do_next.new.acts } in
    let next = c.in_ok-do_next.ensures.does c.if-not-branch.false in
    record {
      does = does_more c.args.now c.loop-done._done before between after c.loop-done.invariant.does next;
      lists = lists_both before between after c.loop-done.invariant.lists (does_lists c.args.now between after next);
    }
