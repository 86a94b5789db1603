use Rattle.std.proofs.Common.{length, ap, arith}
use Rattle.lw_model.specs.declared.record.ThreadRecord.{ThreadRecord}
use Rattle.lw_model.proofs.Printed.{parts}
use Rattle.lw_judge_devices.proofs.OwedImages.{ran_by_owner}
use Rattle.lw_judge_devices.proofs.journal.ran_by_owner.Goals as goal

pub bounds-as_slice-owner : goal.bounds-as_slice-owner
bounds-as_slice-owner c = omega (arith, (parts c.args.of.now).threads, c.requires, c.len.ensures, ap (length {A = ThreadRecord}) c.as_slice.ensures)

pub returns : goal.returns
returns c =
    ran_by_owner c.args.of.now c.args.device c.len.result c.as_slice.result.now c.index-as_slice-owner.result c.as_slice-2.result.now c.requires c.len.ensures c.as_slice.ensures c.index-as_slice-owner.is c.as_slice-2.ensures
