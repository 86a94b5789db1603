use Rattle.std.proofs.Common.{refl, ◌∙◌, arith}
use Rattle.lw_client.specs.Doing.{State}
use Rattle.lw_client.proofs.Closes.{may_give, gives_goes, stage_given}
use Rattle.lw_client.proofs.Goes.{goes_none, goes_both}
use Rattle.lw_client.proofs.Loops.{gives_more, still_within}
use Rattle.lw_client.proofs.client.Client.give_all_back.Goals as goal

pub loop-image-init : goal.loop-image-init
loop-image-init c = record { gives = refl; goes = goes_none (record { body = c.args.self.now; acts = c.args.acts.now }); stage = c.requires.closed }

pub give_back-requires : goal.give_back-requires
give_back-requires c =
    let w = c.requires in
    let between : State = record { body = c.loop-image.self; acts = c.loop-image.acts } in
    may_give w.well.0 between c.loop-image.image (c.loop-image.invariant.goes.well w.well.0 w.well.1) c.loop-image.invariant.stage
    (still_within w.well.0 (record { body = c.args.self.now; acts = c.args.acts.now }) between c.loop-image.image w.well.1 c.loop-image.invariant.goes (omega arith))

pub loop-image-preserved : goal.loop-image-preserved
loop-image-preserved c =
    let w = c.requires in
    let before : State = record { body = c.args.self.now; acts = c.args.acts.now } in
    let between : State = record { body = c.loop-image.self; acts = c.loop-image.acts } in
    let after : State = record { body = c.give_back.new.self; acts = c.give_back.new.acts } in
    let within = still_within w.well.0 before between c.loop-image.image w.well.1 c.loop-image.invariant.goes (omega arith) in
    record {
      gives = gives_more c.loop-image.image before between after c.loop-image.invariant.gives c.in_ok-give_back.ensures;
      goes = goes_both before between after c.loop-image.invariant.goes (gives_goes c.loop-image.image between after c.loop-image.invariant.stage within c.in_ok-give_back.ensures);
      stage = stage_given c.loop-image.image between after c.in_ok-give_back.ensures ∙ c.loop-image.invariant.stage;
    }
