use Rattle.std.proofs.Common.{◌<◌, arith}
use Rattle.lw_thread_tests.proofs.Standing.{not_ended}
use Rattle.lw_thread_tests.proofs.making.two_from.Goals as goal

pub light-requires-2-clause-seat : goal.light-requires-2-clause-seat
light-requires-2-clause-seat c =
    let seat = c.in_ok-seat_0.ensures.second in
    (omega (arith, seat.0), not_ended c.args.start c.in_ok-seat_0.seat_1.place seat.1)
