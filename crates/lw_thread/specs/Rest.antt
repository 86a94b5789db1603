-- What is left of a light thread that has ended.
use Rattle.std.specs.Prelude.{◌≡◌, ◌<◌, Bool, true, List, map, length}
use Rattle.lw_base.specs.declared.message.Tag.{Tag}
use Rattle.lw_base.specs.declared.moves.Hop.{Hop}
use Rattle.lw_place.specs.declared.place.Place.TheVariants as place
use Rattle.lw_place.specs.PlaceSeats.{ThreadEnd}
use Rattle.lw_load.specs.LoadEnds.{LoadEnd}
use Rattle.lw_ring.specs.Ends.{Sender, Receiver}
use Rattle.lw_thread.specs.Acts.{Known, Asks, no_asks}
use Rattle.lw_thread.specs.Runs.{IsRow}
use Rattle.lw_thread.specs.Threads.{known_of, AreAscending}

-- what is left of a light thread that has ended: its body, ends, seat and pass, the tags of what it has run, and its hops
pub record Left (L F B : Type 0) : Type 0 where
  pub body : B
  pub recv : Receiver L F
  pub ends : List (Sender L F)
  pub seat : ThreadEnd
  pub load : LoadEnd
  pub ran : List Tag
  pub trail : List Hop

-- What the type of remains keeps: the ring is closed, the place is that of an ended thread, all that was taken was run, and the
-- body is lawful, with nothing left to send and no poller, and may end.
pub record IsAtRest {L F B : Type 0} (tag_of : L → Tag) (lawful : Known L F → Asks L → B → Type 0) (ends : B → Bool) (r : Left L F B) : Type 0 where
  pub closed : r.recv.closed ≡ 1
  pub place : r.seat.place ≡ place.Ended
  pub row : IsRow r.recv.family r.seat.thread r.ends
  pub number : r.recv.number ≡ r.seat.thread
  pub senders : r.recv.senders ≡ length r.ends
  pub own : r.seat.thread < length r.ends
  pub load : r.load.thread ≡ r.seat.thread
  pub ran : r.ran ≡ map tag_of r.recv.taken
  pub trail : AreAscending r.trail
  pub keeps : lawful (known_of r.seat.thread r.recv r.ends) no_asks r.body
  pub may_end : ends r.body ≡ true
