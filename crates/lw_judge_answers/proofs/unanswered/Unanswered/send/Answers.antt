use Rattle.std.proofs.Common.{length, nat_eq, sym, ap, ◌∙◌, arith}
use Rattle.std.specs.HashMap.{get}
use Rattle.std.proofs.lemmas.List.{length-set}
use Rattle.lw_judge_answers.proofs.Unanswering.{device_sent, op_sent}
use Rattle.lw_judge_answers.proofs.unanswered.Unanswered.send.Goals as goal

pub returns-in-Some : goal.returns-in-Some
returns-in-Some c = λ ops few was. record {
  all = omega (arith, few, was.all);
  devices = ap length c.raise.ensures ∙ length-set c.args.self.now.on.items c.in-Some.device _ ∙ was.devices;
  each_device = device_sent c.args.script.now c.args.thread c.args.op c.in-Some.device ops c.args.self.now.on.items _ few (sym c.image_at.ensures ∙ c.in-Some.is) was.devices c.raise.ensures was.each_device;
  each_op = op_sent (get nat_eq c.args.self.now.ops) (get nat_eq c.insert.new.self) c.args.op _ ops few (cc) c.in_ok-insert.ensures.updates.0 was.each_op;
}
