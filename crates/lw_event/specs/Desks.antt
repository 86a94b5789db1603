-- What callers see of a desk, and what its type keeps.
use Rattle.std.specs.Prelude.{◌≡◌, ℕ, ◌<◌, ◌≤◌, List, [], ◌++◌, length, map, All, Option, Some, None, slice_index_or}
use Rattle.lw_place.specs.PlaceWord.{most_reactors}
use Rattle.lw_ring.specs.Ends.{Sender, Receiver, new_receiver}
use Rattle.lw_ring.specs.Queue.{AllFit}
use Rattle.lw_thread.specs.Runs.{RunId, RingId, ring_of_end, ring_of_recv, IsRow}
use Rattle.lw_thread.specs.Threads.{EndsStill}
use Rattle.lw_event.specs.Letters.{Letter, tag_in}
use Rattle.lw_event.specs.Events.{letter_of, event_fits}
use Rattle.lw_event.specs.declared.event.Event.{Event}

-- how many events one take gives at most
abbrev pub most_taken : ℕ
most_taken = 8

-- a reactor's desk: its number, the receiving end of its ring, its end to the ring of each reactor, and the events that were
-- taken and not handed out, the next first
pub record Desk (B M L F : Type 0) : Type 0 where
  pub number : ℕ
  pub recv : Receiver Letter (RunId F)
  pub ends : List (Sender Letter (RunId F))
  pub batch : List (Event B M L F)

-- the run is known, and has so many reactors
abbrev pub HasReactors : {F : Type 0} → ℕ → Option (RunId F) → Type 0
HasReactors count None = ⊥
HasReactors count (Some run) = run.places.reactors ≡ count

module _ {B M L F : Type 0} where
  -- What the type keeps: the reactor's own ring is open and of its number, its ends are those of one family to the open rings of
  -- all reactors, in order, with its number as their sender. Of what was taken, all but the batch was handed out. Each
  -- event of the batch fits this reactor.
  pub record IsKept (d : Desk B M L F) : Type 0 where
    pub number : d.recv.number ≡ d.number
    pub no_latch : d.recv.latch ≡ None
    pub not_closed : d.recv.closed ≡ 0
    pub unsettled : d.recv.known ≡ []
    pub senders : d.recv.senders ≡ length d.ends
    pub some : 1 ≤ length d.ends
    pub few : length d.ends ≤ most_reactors
    pub run : HasReactors (length d.ends) d.recv.family
    pub row : IsRow d.recv.family d.number d.ends
    pub all_open : All (λ e. e.latch ≡ None) d.ends
    pub handed : List Letter
    pub taken : d.recv.taken ≡ handed ++ map letter_of d.batch
    pub fits : AllFit letter_of tag_in event_fits d.number d.recv.family d.recv.senders d.batch

  -- Whose desk it is stays: the reactor, the rings, the run. What was sent and taken is another matter.
  pub record IsStill (old new : Desk B M L F) : Type 0 where
    pub number : new.number ≡ old.number
    pub recv : new.recv ≡ record old.recv { taken = new.recv.taken; hand = new.recv.hand }
    pub ends : EndsStill old.ends new.ends

  -- the desk of a reactor of this run, whose event rings these are
  pub record IsDeskOf (run : RunId F) (rings : List RingId) (reactor : ℕ) (d : Desk B M L F) : Type 0 where
    pub number : d.number ≡ reactor
    pub its_ring : (r : RingId) → slice_index_or rings reactor r ≡ ring_of_recv d.recv
    pub family : d.recv.family ≡ Some run
    pub ends : map ring_of_end d.ends ≡ rings

  -- these are the desks of all reactors of a run, in order
  pub record AreAllDesks (ds : List (Desk B M L F)) : Type 0 where
    pub run : RunId F
    pub rings : List RingId
    pub count : length ds ≡ length rings
    pub each : (k : ℕ) (d : Desk B M L F) → k < length ds → IsDeskOf run rings k (slice_index_or ds k d)

  -- a desk by which nothing was sent and nothing taken
  pub record IsUnused (run : RunId F) (reactor count : ℕ) (d : Desk B M L F) : Type 0 where
    pub recv : d.recv ≡ new_receiver d.recv.queue None reactor (Some run) count
    pub unsent : All (λ e. (e.sent ≡ []) × (e.found ≡ 0)) d.ends
    pub no_batch : d.batch ≡ []

  -- the desks of new event rings, in order
  pub record AreNewDesks (run : RunId F) (count : ℕ) (ds : List (Desk B M L F)) : Type 0 where
    pub rings : List RingId
    pub ring_count : length rings ≡ count
    pub desk_count : length ds ≡ count
    pub each : (k : ℕ) (d : Desk B M L F) → k < count → IsDeskOf run rings k (slice_index_or ds k d) × IsUnused run k count (slice_index_or ds k d)
