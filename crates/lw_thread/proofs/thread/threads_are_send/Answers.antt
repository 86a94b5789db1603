use denote.Param.Send.{sendable}
use Rattle.std.proofs.Crossing.{crosses}
use Rattle.lw_place.proofs.thread_seat.ThreadSeat.TheSendSync.{the_send as seat}
use Rattle.lw_load.proofs.pass.LoadPass.TheSendSync.{the_send as load}
use Rattle.lw_base.proofs.moves.Hop.TheSendSync.{the_send as hop}
use Rattle.lw_thread.proofs.Crosses.{Links-send}
use Rattle.lw_thread.proofs.acts.Acts.TheSendSync.{the_send as acts}
use Rattle.lw_thread.proofs.thread.threads_are_send.Goals as goal

pub is_send-requires-send-X : goal.is_send-requires-send-X
is_send-requires-send-X g c κs within =
    let m = c.type_bounds.send-B in
    let n = c.type_bounds.send-B-Message in
    search (sendable, crosses, Links-send, acts, seat, load, hop) depth 20
