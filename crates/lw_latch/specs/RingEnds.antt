-- What callers see of the ends of a ring's latch.
use Rattle.std.specs.Prelude.{◌≡◌, ◌≤◌, []}
use Rattle.atomic_table.specs.Seated.{TableId}
use Rattle.atomic_table.specs.declared.shared.Seat.{Seat}
use Rattle.lw_latch.specs.declared.ring_view.RingView.{RingView}
use Rattle.lw_latch.specs.OwnLine.{table_words}
use Rattle.lw_latch.specs.RingWord.{sender_view}

-- an end: of which latch it is, and what its seat knows
pub record RingEnd : Type 0 where
  pub latch : TableId
  pub view : RingView

-- the view of a sender's seat
pub record IsSender (v : RingView) : Type 0 where
  pub one_part : v.parts ≡ 1
  pub receives_not : v.receives ≡ 0
  pub closed_not : v.closed ≡ 0
  pub no_count : v.count ≡ 0
  pub no_tries : v.tries ≡ 0
  pub once : v.inside ≤ 1
  -- one that is inside has not found the latch closed
  pub inside_found_not : v.inside ≡ 1 → v.found ≡ 0

-- the view of the receiver's seat, with the senders that it has taken in
pub record IsReceiver (v : RingView) : Type 0 where
  pub receives : v.receives ≡ 1
  pub outside : v.inside ≡ 0

-- what an end keeps: its seat is at the word of its table, holds no slot, and has the view of such an end
pub record IsSeatOf (Kind : RingView → Type 0) (table : TableId) (seat : Seat (Unit {0}) RingView) : Type 0 where
  pub same_table : seat.table_id ≡ table
  pub words : seat.table_id.words ≡ table_words
  pub no_slots : seat.me.1 ≡ []
  pub view : Kind seat.me.0

-- a sender of a new latch
abbrev pub new_sender : TableId → RingEnd
new_sender latch = record { latch = latch; view = sender_view }
