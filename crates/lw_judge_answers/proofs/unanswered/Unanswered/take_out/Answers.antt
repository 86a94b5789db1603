use Rattle.std.proofs.Common.{◌-◌, length, set, get_or, nat_eq, unwrap_or, sym, ap, ap₂, ◌∙◌}
use Rattle.std.specs.HashMap.{get}
use Rattle.std.proofs.lemmas.List.{length-set}
use Rattle.lw_judge_answers.proofs.Unanswering.{device_answered, nowhere_answered, op_answered, all_answered}
use Rattle.lw_judge_answers.proofs.unanswered.Unanswered.take_out.Goals as goal

pub returns-in-Some : goal.returns-in-Some
returns-in-Some c = λ ops was.
    let answered = c.unwrap_or-answered.ensures ∙ ap (λ o. unwrap_or o 0) c.remove.ensures.value ∙ was.each_op c.args.op in
    let items = c.args.self.now.on.items in record {
      all = c.saturating_sub-self.ensures ∙ ap₂ (λ a b. a - b) was.all answered ∙ sym (all_answered c.args.op ops);
      devices = ap length c.lower.ensures ∙ length-set items c.in-Some.device _ ∙ was.devices;
      each_device = device_answered c.args.script.now c.args.thread c.args.op c.in-Some.device ops items _ (sym c.image_at.ensures ∙ c.in-Some.is) was.devices
          (c.lower.ensures ∙ ap (λ n. set items c.in-Some.device (get_or items c.in-Some.device 0 - n)) answered) was.each_device;
      each_op = op_answered (get nat_eq c.args.self.now.ops) (get nat_eq c.remove.new.self) c.args.op ops c.remove.ensures.updates.0 was.each_op;
    }

pub returns-in_default : goal.returns-in_default
returns-in_default c = λ ops was.
    let answered = c.unwrap_or-answered.ensures ∙ ap (λ o. unwrap_or o 0) c.remove.ensures.value ∙ was.each_op c.args.op in record {
      all = c.saturating_sub-self.ensures ∙ ap₂ (λ a b. a - b) was.all answered ∙ sym (all_answered c.args.op ops);
      devices = was.devices;
      each_device = λ e less. was.each_device e less ∙ sym (nowhere_answered c.args.script.now c.args.thread c.args.op e ops (sym c.image_at.ensures ∙ c.in_default.is));
      each_op = op_answered (get nat_eq c.args.self.now.ops) (get nat_eq c.remove.new.self) c.args.op ops c.remove.ensures.updates.0 was.each_op;
    }
