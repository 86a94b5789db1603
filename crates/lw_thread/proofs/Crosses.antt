-- Light threads, and what is left of them, may cross to another machine thread.
use denote.RattleType.{RattleType}
use denote.Param.Send.{IsSend, sendable}
use Rattle.std.proofs.Crossing.{crosses}
use Rattle.lw_base.specs.declared.tagged.Tagged as Tagged
use Rattle.lw_ring.proofs.recv.RecvEnd.TheSendSync.{the_send as recv}
use Rattle.lw_ring.proofs.ends.SendEnd.TheSendSync.{the_send as sending}
use Rattle.lw_base.proofs.message.Tag.TheSendSync.{the_send as tag}
use Rattle.lw_base.proofs.moves.Hop.TheSendSync.{the_send as hop}
use Rattle.lw_place.proofs.thread_seat.ThreadSeat.TheSendSync.{the_send as seat}
use Rattle.lw_load.proofs.pass.LoadPass.TheSendSync.{the_send as load}
use Rattle.lw_thread.specs.declared.body.Body as Body
use Rattle.lw_thread.specs.contracts.links.Links as Links
use Rattle.lw_thread.specs.contracts.remains.Remains as Remains
use Rattle.lw_thread.specs.contracts.thread.LightThread as LightThread
use Rattle.lw_thread.proofs.acts.Acts.TheSendSync.{the_send as acts}

pub Links-send : (M L F : RattleType) (g : Tagged.Ghosts M.Denot L.Denot F.Denot) → IsSend M → IsSend (Links.the_row M L F g)
Links-send M L F g m = search (sendable, crosses, recv, sending, tag) depth 20

pub LightThread-send : (B M L F : RattleType) (t : Tagged.Ghosts M.Denot L.Denot F.Denot) (b : Body.Ghosts B.Denot M.Denot L.Denot F.Denot) → IsSend B → IsSend M → IsSend (LightThread.the_row B M L F b t)
LightThread-send B M L F t b s m = search (sendable, crosses, Links-send, acts, seat, load, hop) depth 20

pub Remains-send : (B M L F : RattleType) (t : Tagged.Ghosts M.Denot L.Denot F.Denot) (b : Body.Ghosts B.Denot M.Denot L.Denot F.Denot) → IsSend B → IsSend M → IsSend (Remains.the_row B M L F b t)
Remains-send B M L F t b s m = search (sendable, crosses, recv, sending, tag, seat, load, hop) depth 20
