use Rattle.std.proofs.Common.{inr, arith, ap, sym, ◌∙◌, get_or, List, refl}
use Rattle.std.specs.Prelude.{slice_set, slice_get}
use Rattle.std.proofs.lemmas.Option.{IfSome_then}
use Rattle.lw_model.specs.declared.script.Op.{Op}
use Rattle.lw_target.specs.declared.device.Device.{Device}
use Rattle.lw_target.proofs.Doing.{op_went_on}
use Rattle.lw_target.proofs.Ticking.{went_none, same_client, waits_known}
use Rattle.lw_target.proofs.Handling.{OpDone, calls_did, op_progress}
use Rattle.lw_target.proofs.client.Client.do_next.Goals as goal

done : (c : goal.After-count) → OpDone c.args.self.now c.carry_out.new.self c.args.acts.now c.carry_out.new.acts c.args.devices.now (slice_set c.args.devices.now c.device-image.result c.count.new.self)
done c = calls_did c.args.self.now c.carry_out.new.self c.args.acts.now c.carry_out.new.acts c.args.devices.now (slice_set c.args.devices.now c.device-image.result c.count.new.self)
    c.index-as_slice-self.result c.action_of-action.result c.in-Some.answer c.device-image.result _
    (record {
      more = λ e. c.if-self-len.false (e ∙ sym c.len.ensures);
      op = c.index-as_slice-self.is ∙ ap (λ (l : List Op). get_or l c.args.self.now.next c.index-as_slice-self.result) c.as_slice.ensures;
      does = c.action_of-action.ensures.action;
      asks = c.action_of-action.ensures.asks;
      within = omega (arith, c.action_of-action.ensures.device, c.len-2.ensures);
      at = c.device-image.ensures;
      length = c.requires.devices;
      answered = c.in-Some.ensures;
      handled = IfSome_then (slice_get c.args.self.now.of.ops c.args.self.now.next) c.in_ok-carry_out.ensures
          (λ o p. IfSome_then (slice_get c.args.self.now.channels.items c.device-image.result) p
          (λ k h. record {
            thread = h.thread;
            first_owner = h.first_owner;
            of = h.of;
            closed = h.closed;
            done = h.done;
            replies = h.replies;
            next = h.next;
            did = h.did;
            channels = h.channels;
            standing = h.standing;
            unanswered = h.unanswered;
            acts = h.acts;
          }));
      counted = ap (λ (v : Device). slice_set c.args.devices.now c.device-image.result v) c.count.ensures;
    })

pub returns-clause-progress : goal.returns-clause-progress
returns-clause-progress c = op_progress _ _ _ _ _ _ (done c)

pub returns-clause-one : goal.returns-clause-one
returns-clause-one c = (done c).handled.next

pub returns-then-self-len-clause-went_on : goal.returns-then-self-len-clause-went_on
returns-then-self-len-clause-went_on c = went_none _ _ _ _ (record {
  thread = refl;
  first_owner = refl;
  of = refl;
  next = refl;
  channels = refl;
  standing = refl;
  unanswered = refl;
  closed = refl;
  done = refl;
  did = refl;
  replies = refl;
})

pub returns-in_default-clause-went_on : goal.returns-in_default-clause-went_on
returns-in_default-clause-went_on c = went_none _ _ _ _ (record {
  thread = refl;
  first_owner = refl;
  of = refl;
  next = refl;
  channels = refl;
  standing = refl;
  unanswered = refl;
  closed = refl;
  done = refl;
  did = refl;
  replies = refl;
})

pub returns-clause-went_on : goal.returns-clause-went_on
returns-clause-went_on c = op_went_on _ _ _ _ _ _ (done c)

pub returns-in_default-clause-paused : goal.returns-in_default-clause-paused
returns-in_default-clause-paused c = λ e. record {
  client = same_client c.args.self.now _ _ _ _ _ _ _;
  acts = refl;
  same = refl;
  held_up = λ deep. inr (waits_known c.args.self.now c.args.devices.now c.action_of-action.result
      (omega (arith, c.action_of-action.ensures.device, c.len-2.ensures)) c.requires.devices deep c.in_default.ensures);
}
