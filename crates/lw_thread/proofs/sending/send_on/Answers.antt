use Rattle.std.proofs.Common.{arith}
use Rattle.lw_thread.proofs.sending.send_on.Goals as goal

pub send_some-requires-clause-to : goal.send_some-requires-clause-to
send_some-requires-clause-to g c =
    let many = c.if-count-lt2.false in
    let count = c.neighbours-count.ensures in
    (omega arith, omega arith)

pub send_some-requires-clause-room : goal.send_some-requires-clause-room
send_some-requires-clause-room g c = λ d.
    (let count = c.neighbours-count.ensures in
    let room = c.room.ensures d in
    omega arith)
