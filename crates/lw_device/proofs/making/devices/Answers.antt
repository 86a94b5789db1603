use Rattle.std.proofs.Common.{rules, ◌≡◌, ◌+◌, ◌<◌, ℕ, List, length, get_or, subst, sym}
use Rattle.lw_latch.specs.DeviceEnds.{SeatEnd}
use Rattle.lw_device.specs.Rows.{Row, AreNewRows}
use Rattle.lw_device.proofs.NewRows.{lent, with_one, one_more_device}
use Rattle.lw_device.proofs.making.devices.Goals as goal

pub loop-preserved : goal.loop-preserved
loop-preserved c =
    let old = c.loop.rows.items in
    let new = c.add_device.new.rows in
    let same : length new ≡ length old = search rules in
    let seats = c.in_ok-device_latch.field-0.items in
    let each = subst (λ (rows : List Row). (t : ℕ) (r : Row) (e : SeatEnd) → t < length rows → get_or new t r ≡ with_one (get_or rows t r) (get_or seats t e))
    c.deref_mut.ensures.value c.in_ok-add_device.ensures.each in
    subst (AreNewRows (c.loop.counter + 1) c.args.threads) (sym (lent c.loop.rows.len new old same (search rules)))
    (one_more_device c.loop.counter c.args.threads old new seats c.loop.invariant c.in_ok-device_latch.ensures same each)
