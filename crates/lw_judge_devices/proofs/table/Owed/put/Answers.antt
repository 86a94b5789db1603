use Rattle.std.proofs.Common.{refl, arith}
use Rattle.lw_judge_devices.proofs.OwedTable.{noted, has_place}
use Rattle.lw_judge_devices.proofs.WhatStands.{is_in}
use Rattle.lw_judge_devices.proofs.table.Owed.put.Goals as goal

pub returns-in-Some-get_mut-clause-replies : goal.returns-in-Some-get_mut-clause-replies
returns-in-Some-get_mut-clause-replies c = λ s places below.
    let rows = c.args.self.now.threads.items in
    noted rows c.in-Some.ops.now _ c.args.thread c.args.op c.args.answer
    (is_in rows rows c.args.thread c.in-Some.ops.now refl c.in-Some.ensures.item.3.0 c.in-Some.ensures.value) refl c.in-Some-get_mut.ensures.item.3.0

pub returns-in_default-get_mut-clause-replies : goal.returns-in_default-get_mut-clause-replies
returns-in_default-get_mut-clause-replies c = λ s places below.
    let rows = c.args.self.now.threads.items in
    absurd (omega (
      arith,
      below,
      c.in_default-get_mut.ensures.item.3,
      places.ops c.args.thread c.in-Some.ops.now (is_in rows rows c.args.thread c.in-Some.ops.now refl c.in-Some.ensures.item.3.0 c.in-Some.ensures.value),
    ))

pub returns-in_default-clause-replies : goal.returns-in_default-clause-replies
returns-in_default-clause-replies c = λ s places below.
    absurd (omega (arith, has_place s c.args.self.now c.args.thread c.args.op places below, c.in_default.ensures.item.3))
