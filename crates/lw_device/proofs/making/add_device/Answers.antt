use Rattle.std.proofs.Common.{◌≡◌, ℕ, suc, ◌+◌, ◌<◌, drop, length, ap, sym, ◌∙◌, arith, length-set}
use Rattle.std.specs.Vec.Iter.{into_iter_items}
use Rattle.lw_latch.specs.DeviceEnds.{SeatEnd}
use Rattle.lw_device.proofs.Pairing.{next_left}
use Rattle.lw_device.proofs.NewRows.{added_one, the_others}
use Rattle.lw_device.proofs.making.add_device.Goals as goal

pub loop-seat-preserved : goal.loop-seat-preserved
loop-seat-preserved c =
    let i = c.loop-seat.invariant in
    let n = c.loop-seat.thread in
    let old = c.args.rows.now in
    let rows = c.loop-seat.rows in
    let seats = c.args.seats.items in
    let seat = c.in-Some.seat in
    let left = λ (e : SeatEnd). next_left n seats (into_iter_items c.next.new.self) seat e (sym i.2 ∙ c.in-Some.ensures.steps.0) in
    let here : n < length old = (let a = (left seat).0 in let b = c.requires in omega arith) in (
      (omega arith),
      length-set rows n c.add.new.self ∙ i.1,
      (left seat).2 ∙ ap (λ (k : ℕ). drop k seats) (let next : suc n ≡ n + 1 = omega arith in next),
      added_one old rows seats n c.add.new.self c.index-rows-thread.result seat here i.1 c.in_ok-add.ensures (λ e. (left e).1) i.3 i.4,
      the_others old rows n c.add.new.self i.4,
    )
