use Rattle.std.proofs.Common.{Some, ap, ◌∙◌}
use Rattle.lw_model.specs.declared.script.Op.TheVariants as op
use Rattle.lw_ops.proofs.Tasks.{few_bytes}
use Rattle.lw_ops.proofs.task.task_of.Goals as goal

pub class_of-requires-clause-image : goal.class_of-requires-clause-image
class_of-requires-clause-image c =
    let w = c.in-Read in
    (c.requires (op.Read w.image w.start w.count) (c.in_ok-image.ensures ∙ ap (λ o. Some o) w.is)).0

pub class_of-requires-clause-few : goal.class_of-requires-clause-few
class_of-requires-clause-few c =
    let w = c.in-Read in
    few_bytes c.args.script.now w.image w.start w.count (c.requires (op.Read w.image w.start w.count) (c.in_ok-image.ensures ∙ ap (λ o. Some o) w.is)).1
