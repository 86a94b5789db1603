use Rattle.std.proofs.Common.{length, ap, sym, subst, ◌∙◌}
use Rattle.lw_device.specs.Rows.{Row, seat_of, seat_tried}
use Rattle.lw_device_tests.specs.Registries.{HasBegun}
use Rattle.lw_device_tests.proofs.Begun.{one_kept, begun_kept}
use Rattle.lw_device_tests.proofs.devices.word_told.Goals as goal

pub returns-in-NotYet-clause-one : goal.returns-in-NotYet-clause-one
returns-in-NotYet-clause-one c =
    let told = (c.callback_due.ensures.not_yet c.in-NotYet.seen c.in-NotYet.is).0 in
    ap (λ (r : Row). length r.seats) told ∙ one_kept c.args.row.now (seat_tried c.in-NotYet.seen) c.requires.one

pub returns-in-NotYet-clause-began : goal.returns-in-NotYet-clause-began
returns-in-NotYet-clause-began c =
    let told = (c.callback_due.ensures.not_yet c.in-NotYet.seen c.in-NotYet.is).0 in
    subst (λ (r : Row). HasBegun (seat_of r 0)) (sym told) (begun_kept c.args.row.now (seat_tried c.in-NotYet.seen) (λ e h. h) c.requires.one c.requires.began)
