use Rattle.std.proofs.Common.{◌≡◌, ◌<◌, ℕ, length, All, ap, subst, sym, ◌∙◌}
use Rattle.std.specs.Prelude.{slice_index_or}
use Rattle.std.proofs.lemmas.Result.{IfOk-weaker}
use Rattle.lw_latch.specs.DeviceEnds.{SeatEnd}
use Rattle.lw_base.specs.declared.ends.DeviceEnd.{DeviceEnd}
use Rattle.lw_device.specs.Rows.{Row, IsEndOf, seat_of}
use Rattle.lw_device.proofs.AllRows.{stands_for_all, each_settles, as_many, ends_fire, if_both}
use Rattle.lw_device.proofs.settling.settle_devices.Goals as goal

pub all_ends-requires : goal.all_ends-requires
all_ends-requires c = subst (λ (r : Row). All (λ (e : SeatEnd). e.view.seats ≡ e.latch.seats) r.seats) (sym c.join_rows.ensures.whole) (stands_for_all c.args.rows.items c.requires)

pub returns-clause-count : goal.returns-clause-count
returns-clause-count c = IfOk-weaker c.all_ends.result _ _ (λ v n. as_many c.args.rows.items c.requires (length v.items) (n ∙ ap (λ (r : Row). length r.seats) c.join_rows.ensures.whole)) c.all_ends.ensures.count

pub returns-clause-each : goal.returns-clause-each
returns-clause-each c = if_both c.all_ends.result _ _ _
    (λ v n each. each_settles c.args.rows.items c.requires v.items (n ∙ ap (λ (r : Row). length r.seats) c.join_rows.ensures.whole)
    (subst (λ (r : Row). (d : ℕ) (x : DeviceEnd) → d < length r.seats → IsEndOf (seat_of r d) (slice_index_or v.items d x)) c.join_rows.ensures.whole each)
    (c.join_rows.ensures.only_who_began (ends_fire c.join_rows.result v.items each)))
    c.all_ends.ensures.count
    c.all_ends.ensures.each
