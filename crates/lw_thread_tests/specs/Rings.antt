-- Whose ends make up a ring of two senders.
use Rattle.std.specs.Prelude.{◌≡◌, ℕ, List, [], length, slice_index_or}
use Rattle.lw_ring.specs.Ends.{Sender, Receiver, IsEnd}

-- The second ends of two threads, the first of which has these ends and the second one those, are the ends of this ring.
pub record AreOfRing {L F : Type 0} (r : Receiver L F) (es fs : List (Sender L F)) : Type 0 where
  pub unsettled : r.known ≡ []
  pub senders : r.senders ≡ 2
  pub counts : (length es ≡ 2) × (length fs ≡ 2)
  pub first : (d : Sender L F) → IsEnd r 0 (slice_index_or es 1 d)
  pub second : (d : Sender L F) → IsEnd r 1 (slice_index_or fs 1 d)
