use Rattle.std.proofs.Common.{◌<◌, length, slice_set, sym, subst}
use Rattle.std.proofs.lemmas.Result.{IfOk-weaker}
use Rattle.lw_device.specs.Rows.{Row}
use Rattle.lw_device.proofs.Beginning.{RowBegan, row_began}
use Rattle.lw_device.proofs.row.DeviceRow.unregister.Goals as goal

pub returns-clause-began : goal.returns-clause-began
returns-clause-began c =
    let d = c.args.device in
    let seats = c.self.inside.seats.items in
    let seat = c.index_mut.result.now in
    let below : d < length seats = subst (λ (r : Row). d < length r.seats) (sym c.self.view_is) c.requires in
    IfOk-weaker c.given_where_begun.result _ _
    (λ given is. subst (λ (r : Row). RowBegan r d given (record { thread = c.self.inside.thread; seats = slice_set seats d c.shut.new.self })) c.self.view_is
    (row_began c.self.inside.thread seats d given seat c.shut.new.self below c.index_mut.ensures.value (c.shut.ensures.began given is)))
    c.given_where_begun.ensures.began
