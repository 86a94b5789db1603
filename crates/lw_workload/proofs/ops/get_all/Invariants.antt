use Rattle.std.proofs.Common.{◌≡◌, ◌++◌, map}
use Rattle.std.specs.List.{range_with_len}
use Rattle.lw_model.specs.declared.script.Op.TheVariants as op
use Rattle.lw_workload.proofs.ops.get_all.Given as goal

abbrev pub invariant-loop-image : goal.invariant-loop-image
invariant-loop-image l = l.list.items ≡ l.initial.list.items ++ map op.Get (range_with_len 0 l.image)
